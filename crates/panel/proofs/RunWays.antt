-- What the turns of a run give. Assumes nothing.
use mathlib.Core.Path.{◌≡◌, refl, sym, ap, ap₂, ◌∙◌}
use mathlib.Core.Bool.{true, true≢false}
use mathlib.Core.List.{List, [], ◌∷◌}
use Prim.Native.Nat.{ℕ, ◌+◌, ◌≤◌}
use native.Mathlib.Omega.{arith}
use lib.Dec.{ltb}
use lib.ListN.{length}
use Rattle.std.specs.declared.ops.ControlFlow.{ControlFlow}
use Rattle.std.specs.declared.ops.ControlFlow.TheVariants.{Continue, Break}
use Rattle.run.specs.Panel.{Panel}
use Rattle.panel.specs.CallContracts.{most_filled}
use Rattle.panel.specs.Runs.{is_full, handed_in, goes_in, Takes, Turns, panel_after, left_after, laid_last, goes_after, InTurn, Made, most_turns, Runs}

-- So many turns were made, and one may follow.
pub record Running (p : Panel) (left out : List ℕ) (handed : ℕ) (later : Panel) (count : ℕ) : Type 0 where
  pub made : Made p left out handed true later
  pub counted : length made.turns ≡ count

pub runs_none : {left out : List ℕ} (p : Panel) → left ≡ [] → out ≡ [] → Running p left out 0 p 0
unfolding panel_after left_after laid_last goes_after InTurn
runs_none p l o = record {
  made = record { turns = []; in_turn = tt; laid = o; left_is = l; stands = refl; goes = λ _. refl; all = sym (ap length o) };
  counted = refl;
}

module _ {p : Panel} {left out : List ℕ} {handed : ℕ} {later : Panel} {count : ℕ} (r : Running p left out handed later count) where
  abbrev a : Made p left out handed true later
  a = r.made

  more_made : {left' out' : List ℕ} {later' : Panel} {o : ControlFlow ℕ ℕ} → Turns later left (ltb most_filled handed) left' out' o later'
      → (m : Made p left' out' (handed_in o) (goes_in o) later') × (length m.turns ≡ count + 1)
  unfolding panel_after left_after laid_last goes_after InTurn
  more_made {left'} {out'} {later'} t =
      let s = t.steps in
      let n : handed ≡ length (laid_last a.turns) = a.all ∙ ap length a.laid in
      let same : Takes later left s.event out' left' later' ≡ Takes (panel_after p a.turns) (left_after a.turns) s.event out' left' later' =
      ap₂ (λ q l. Takes q l s.event out' left' later') a.stands a.left_is in (
        record {
          turns = record { event = s.event; laid = out'; left = left'; after = later' } ∷ a.turns;
          in_turn = (a.goes refl, s.kind ∙ ap is_full n, rw same at s.takes, a.in_turn);
          laid = refl;
          left_is = refl;
          stands = refl;
          goes = λ g. sym s.goes ∙ t.goes g;
          all = t.handed;
        },
        omega (arith, r.counted),
      )

  pub runs_more : {left' out' : List ℕ} {later' : Panel} {n : ℕ} → Turns later left (ltb most_filled handed) left' out' (Continue n) later'
      → Running p left' out' n later' (count + 1)
  runs_more t = let (m, n) = more_made t in record { made = m; counted = n }

  pub run_stopped : {left' out' : List ℕ} {later' : Panel} {n : ℕ} {o : ControlFlow ℕ ℕ}
      → Turns later left (ltb most_filled handed) left' out' (Break n) later' → o ≡ Break n → Runs p left' out' o later'
  run_stopped t e = rw e (record { made = (more_made t).0; until = λ e. absurd (true≢false (sym e)) })

  pub run_out : most_turns ≤ count → count ≤ most_turns → Runs p left out (Continue handed) later
  run_out h k = record { made = a; until = λ _. omega (arith, r.counted) }
