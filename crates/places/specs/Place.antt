-- Which numbers are those of a place. Assumes nothing.
use Rattle.std.specs.Prelude.{ℕ, ◌≡◌, ◌≤◌, Result, MatchResult}
use Rattle.expression.specs.declared.refusal.Refusal.{Refusal}
use Rattle.expression.specs.declared.refusal.Refusal.TheVariants as refusal
use Rattle.run.specs.Places.{place_count}
use Rattle.places.specs.declared.place.Place.{Place}

-- those below sixteen; another is refused
abbrev pub Taken : ℕ → Result Place Refusal → Type 0
Taken number r = MatchResult r (λ place. place.at ≡ number) (λ e. (e ≡ refusal.Place) × (place_count ≤ number))
