-- The numbers of lines mean what docs/REFERENCE.md, section 4, says. Assumes nothing.
use Prim.Native.Nat.{ℕ, ◌+◌, ◌%◌, ◌<◌, ◌≤◌}
use native.Mathlib.Omega.{arith}
use native.Mathlib.Decide.{ℕ_discrete, dec_lt}
use mathlib.Core.Path.{◌≡◌, refl, ap, sym, subst, ◌∙◌}
use mathlib.Core.Bool.{Bool, true, false, ◌&&◌, cond, true≢false, false≢true}
use mathlib.Core.Logic.{◌⊎◌, inl, inr}
use mathlib.Core.List.{List, [], ◌∷◌}
use mathlib.Core.Option.{Option, none, some, none-ne-some, some-injective}
use borrow.Author.Tests.{ne_eqb, eq-eqb}
use lib.Dec.{eqb}
use lib.ListN.{length}
use Rattle.expression.specs.Refusal.{oversize}
use Rattle.run.specs.Call.{Call, stage, switch, put_row, put_record, drop, ask, fetch_record, fetch_row, image, repair, judge}
use Rattle.run.specs.Panel.{Panel}
use Rattle.run.specs.Book.{Book}
use Rattle.run.specs.Meaning.{SomeOf, Means}
use Rattle.run.proofs.Stands.{Stands}
use Rattle.run.proofs.Meanings.{when, decides_less}
use Rattle.run.proofs.MeaningsBook.{reply_means}
use Rattle.hexadecimal.specs.Digits.{is_digit, all_digits}
use Rattle.hexadecimal.specs.Text.{pair_bytes, bytes_of}
use Rattle.hexadecimal.proofs.Laws.{line_read}
use Rattle.frame.specs.Frames.{room, call_of, frame_call, frame_number}
use Rattle.frame.specs.Lines.{most_characters, is_long, text_call, line_call}
use Rattle.frame.specs.Meaning.{NoPairs, NoFrame, WithFrame, MeansLine}

-- ---- frames
-- no frame and no call, or a frame and a call
abbrev Formed : List ℕ → Type 0
Formed bytes = (NoFrame bytes × (frame_call bytes ≡ none)) ⊎ ((NoFrame bytes → ⊥) × ((c : Call) × (frame_call bytes ≡ some c)))

-- a known kind whose length fits
fits : (kind : ℕ) (rest : List ℕ) → 0 < kind → kind ≤ 10
    → (((kind ≡ 1) ⊎ (kind ≡ 2) ⊎ (kind ≡ 6)) → length rest ≡ 0 → ⊥) → (((kind ≡ 3) ⊎ (kind ≡ 4) ⊎ (kind ≡ 5) ⊎ (kind ≡ 9)) → length rest ≡ 1) → (kind ≡ 10 → length rest ≡ 0) → NoFrame (kind ∷ rest) → ⊥
fits kind rest low high f g b (inl h) = omega arith
fits kind rest low high f g b (inr (inl h)) = omega arith
fits kind rest low high f g b (inr (inr (inl (k, h)))) = f k h
fits kind rest low high f g b (inr (inr (inr (inl (k, h))))) = h (g k)
fits kind rest low high f g b (inr (inr (inr (inr (k, h))))) = h (b k)

-- none of the kinds that want that byte alone
no_alone : (kind m : ℕ) → ((kind ≡ 3 → ⊥) × (kind ≡ 4 → ⊥) × (kind ≡ 5 → ⊥) × (kind ≡ 9 → ⊥)) → ((kind ≡ 3) ⊎ (kind ≡ 4) ⊎ (kind ≡ 5) ⊎ (kind ≡ 9)) → m ≡ 1
no_alone kind m (a, b, c, d) (inl e) = absurd (a e)
no_alone kind m (a, b, c, d) (inr (inl e)) = absurd (b e)
no_alone kind m (a, b, c, d) (inr (inr (inl e))) = absurd (c e)
no_alone kind m (a, b, c, d) (inr (inr (inr e))) = absurd (d e)

-- none of the kinds that want it
no_named : (kind m : ℕ) → ((kind ≡ 1 → ⊥) × (kind ≡ 2 → ⊥) × (kind ≡ 6 → ⊥)) → ((kind ≡ 1) ⊎ (kind ≡ 2) ⊎ (kind ≡ 6)) → m ≡ 0 → ⊥
no_named kind m (a, b, c) (inl e) h = a e
no_named kind m (a, b, c) (inr (inl e)) h = b e
no_named kind m (a, b, c) (inr (inr e)) h = c e

-- a kind that wants the byte after it
formed_named : (kind : ℕ) (rest : List ℕ) → ((kind ≡ 1) ⊎ (kind ≡ 2) ⊎ (kind ≡ 6)) → ((kind ≡ 3 → ⊥) × (kind ≡ 4 → ⊥) × (kind ≡ 5 → ⊥) × (kind ≡ 9 → ⊥)) → 0 < kind → kind < 10
    → (call_of kind [] ≡ none) → ((x : ℕ) (more : List ℕ) → (c : Call) × (call_of kind (x ∷ more) ≡ some c)) → Formed (kind ∷ rest)
formed_named kind [] k n low high e f = inl (inr (inr (inl (k, refl))), e)
formed_named kind (x ∷ more) k n low high e f = inr (fits kind (x ∷ more) low (omega arith) (λ _ z. omega arith) (no_alone kind (length (x ∷ more)) n) (λ z. absurd (omega arith)), f x more)

-- one that wants it alone
formed_alone : (kind : ℕ) (rest : List ℕ) → ((kind ≡ 3) ⊎ (kind ≡ 4) ⊎ (kind ≡ 5) ⊎ (kind ≡ 9)) → ((kind ≡ 1 → ⊥) × (kind ≡ 2 → ⊥) × (kind ≡ 6 → ⊥)) → 0 < kind → kind < 10
    → (call_of kind [] ≡ none) → ((x : ℕ) → (c : Call) × (call_of kind (x ∷ []) ≡ some c)) → ((x y : ℕ) (more : List ℕ) → call_of kind (x ∷ y ∷ more) ≡ none) → Formed (kind ∷ rest)
formed_alone kind [] k n low high e f g = inl (inr (inr (inr (inl (k, λ z. omega arith)))), e)
formed_alone kind (x ∷ []) k n low high e f g = inr (fits kind (x ∷ []) low (omega arith) (no_named kind 1 n) (λ _. refl) (λ z. absurd (omega arith)), f x)
formed_alone kind (x ∷ y ∷ more) k n low high e f g = inl (inr (inr (inr (inl (k, λ z. omega arith)))), g x y more)

-- one that takes any bytes
formed_any : (kind : ℕ) (rest : List ℕ) → ((kind ≡ 1 → ⊥) × (kind ≡ 2 → ⊥) × (kind ≡ 6 → ⊥)) → ((kind ≡ 3 → ⊥) × (kind ≡ 4 → ⊥) × (kind ≡ 5 → ⊥) × (kind ≡ 9 → ⊥)) → 0 < kind → kind < 10
    → ((c : Call) × (call_of kind rest ≡ some c)) → Formed (kind ∷ rest)
formed_any kind rest m n low high f = inr (fits kind rest low (omega arith) (no_named kind (length rest) m) (no_alone kind (length rest) n) (λ z. absurd (omega arith)), f)

unknown : (kind : ℕ) (rest : List ℕ) → (kind < 1) ⊎ (10 < kind) → call_of kind rest ≡ none
unfolding call_of
unknown kind rest h =
    rw (
      ne_eqb kind 1 (no 1 (omega arith) (omega arith)),
      ne_eqb kind 2 (no 2 (omega arith) (omega arith)),
      ne_eqb kind 3 (no 3 (omega arith) (omega arith)),
      ne_eqb kind 4 (no 4 (omega arith) (omega arith)),
      ne_eqb kind 5 (no 5 (omega arith) (omega arith)),
      ne_eqb kind 6 (no 6 (omega arith) (omega arith)),
      ne_eqb kind 7 (no 7 (omega arith) (omega arith)),
      ne_eqb kind 8 (no 8 (omega arith) (omega arith)),
      ne_eqb kind 9 (no 9 (omega arith) (omega arith)),
      ne_eqb kind 10 (no 10 (omega arith) (omega arith)),
    )
  where
    no : (k : ℕ) → 0 < k → k ≤ 10 → kind ≡ k → ⊥
    no k low high e = go h
      where
        go : (kind < 1) ⊎ (10 < kind) → ⊥
        go (inl z) = omega arith
        go (inr z) = omega arith

module _ (rest : List ℕ) where
  stage_formed : Formed (1 ∷ rest)
  unfolding call_of
  stage_formed = formed_named 1 rest (inl refl) (λ e. omega arith, λ e. omega arith, λ e. omega arith, λ e. omega arith) (omega arith) (omega arith) refl (λ x more. (stage x more, refl))

  put_row_formed : Formed (2 ∷ rest)
  unfolding call_of
  put_row_formed = formed_named 2 rest (inr (inl refl)) (λ e. omega arith, λ e. omega arith, λ e. omega arith, λ e. omega arith) (omega arith) (omega arith) refl (λ x more. (put_row x more, refl))

  drop_formed : Formed (3 ∷ rest)
  unfolding call_of
  drop_formed = formed_alone 3 rest (inl refl) (λ e. omega arith, λ e. omega arith, λ e. omega arith) (omega arith) (omega arith) refl (λ x. (drop x, refl)) (λ x y more. refl)

  fetch_record_formed : Formed (4 ∷ rest)
  unfolding call_of
  fetch_record_formed = formed_alone 4 rest (inr (inl refl)) (λ e. omega arith, λ e. omega arith, λ e. omega arith) (omega arith) (omega arith) refl (λ x. (ask (fetch_record x room), refl)) (λ x y more. refl)

  fetch_row_formed : Formed (5 ∷ rest)
  unfolding call_of
  fetch_row_formed = formed_alone 5 rest (inr (inr (inl refl))) (λ e. omega arith, λ e. omega arith, λ e. omega arith) (omega arith) (omega arith) refl (λ x. (ask (fetch_row x room), refl)) (λ x y more. refl)

  put_record_formed : Formed (6 ∷ rest)
  unfolding call_of
  put_record_formed = formed_named 6 rest (inr (inr refl)) (λ e. omega arith, λ e. omega arith, λ e. omega arith, λ e. omega arith) (omega arith) (omega arith) refl (λ x more. (put_record x more, refl))

  judge_formed : Formed (7 ∷ rest)
  unfolding call_of
  judge_formed = formed_any 7 rest (λ e. omega arith, λ e. omega arith, λ e. omega arith) (λ e. omega arith, λ e. omega arith, λ e. omega arith, λ e. omega arith) (omega arith) (omega arith) (ask (judge rest), refl)

  repair_formed : Formed (8 ∷ rest)
  unfolding call_of
  repair_formed = formed_any 8 rest (λ e. omega arith, λ e. omega arith, λ e. omega arith) (λ e. omega arith, λ e. omega arith, λ e. omega arith, λ e. omega arith) (omega arith) (omega arith) (ask (repair rest room), refl)

  image_formed : Formed (9 ∷ rest)
  unfolding call_of
  image_formed = formed_alone 9 rest (inr (inr (inr refl))) (λ e. omega arith, λ e. omega arith, λ e. omega arith) (omega arith) (omega arith) refl (λ x. (ask (image x room), refl)) (λ x y more. refl)

  switch_formed : Formed (10 ∷ rest)
  unfolding call_of
  switch_formed = go rest
    where
      go : (l : List ℕ) → Formed (10 ∷ l)
      go [] = inr (fits 10 [] (omega arith) (omega arith) (no_named 10 0 (λ e. omega arith, λ e. omega arith, λ e. omega arith)) (no_alone 10 0 (λ e. omega arith, λ e. omega arith, λ e. omega arith, λ e. omega arith)) (λ _. refl), (switch, refl))
      go (x ∷ more) = inl (inr (inr (inr (inr (refl, λ z. omega arith)))), refl)

  unknown_formed : (kind : ℕ) → (kind < 1) ⊎ (10 < kind) → Formed (kind ∷ rest)
  unknown_formed kind (inl h) = inl (inl h, unknown kind rest (inl h))
  unknown_formed kind (inr h) = inl (inr (inl h), unknown kind rest (inr h))

  formed_kind : (kind : ℕ) → Formed (kind ∷ rest)
  formed_kind kind = go (dec_lt kind 1)
    where
      by : (k : ℕ) → k ≤ kind → Formed (k ∷ rest) → (k + 1 ≤ kind → Formed (kind ∷ rest)) → Formed (kind ∷ rest)
      by k least formed more = here (ℕ_discrete kind k)
        where
          here : Dec (kind ≡ k) → Formed (kind ∷ rest)
          here (yes e) = subst (λ x. Formed (x ∷ rest)) (sym e) formed
          here (no h) = more (omega arith)

      go : Dec (kind < 1) → Formed (kind ∷ rest)
      go (yes h) = unknown_formed kind (inl h)
      go (no h) =
          by 1 (omega arith) stage_formed (λ a. by 2 a put_row_formed (λ b. by 3 b drop_formed (λ c. by 4 c fetch_record_formed (λ d. by 5 d fetch_row_formed (λ e.
          by 6 e put_record_formed (λ f. by 7 f judge_formed (λ g. by 8 g repair_formed (λ h. by 9 h image_formed (λ i. by 10 i switch_formed (λ j. unknown_formed kind (inr j)))))))))))

formed : (bytes : List ℕ) → Formed bytes
formed [] = inl (tt, refl)
formed (kind ∷ rest) = formed_kind rest kind

-- ---- digit pairs
no_digit : (line : List ℕ) → all_digits line ≡ false → SomeOf (λ c. is_digit c ≡ false) line
unfolding all_digits
no_digit [] e = absurd (true≢false e)
no_digit (c ∷ line) e = go (is_digit c) refl e (no_digit line)
  where
    go : (d : Bool) → is_digit c ≡ d → (d && all_digits line) ≡ false → (all_digits line ≡ false → SomeOf (λ x. is_digit x ≡ false) line)
        → (is_digit c ≡ false) ⊎ SomeOf (λ x. is_digit x ≡ false) line
    go true q f more = inr (more f)
    go false q f more = inl q

only_digits : (line : List ℕ) → all_digits line ≡ true → SomeOf (λ c. is_digit c ≡ false) line → ⊥
unfolding all_digits
only_digits [] e f = f
only_digits (c ∷ line) e f = go (is_digit c) refl e f (only_digits line)
  where
    go : (d : Bool) → is_digit c ≡ d → (d && all_digits line) ≡ true → (is_digit c ≡ false) ⊎ SomeOf (λ x. is_digit x ≡ false) line
        → (all_digits line ≡ true → SomeOf (λ x. is_digit x ≡ false) line → ⊥) → ⊥
    go true q h (inl z) more = true≢false (sym q ∙ z)
    go true q h (inr z) more = more h z
    go false q h z more = false≢true h

no_pairs : (line : List ℕ) → bytes_of line ≡ none → NoPairs line
unfolding bytes_of
no_pairs line e = go (eqb (length line % 2) 0) (all_digits line) refl refl e
  where
    go : (p d : Bool) → eqb (length line % 2) 0 ≡ p → all_digits line ≡ d → cond (p && d) (some (pair_bytes line)) none ≡ none → NoPairs line
    go false d q f z = inl (λ h. true≢false (sym (eq-eqb (length line % 2) 0 h) ∙ q))
    go true false q f z = inr (no_digit line f)
    go true true q f z = absurd (none-ne-some (pair_bytes line) (sym z))

pairs : (line bytes : List ℕ) → bytes_of line ≡ some bytes → NoPairs line → ⊥
pairs line bytes e (inl h) = h (omega (arith, (line_read line bytes e).even))
pairs line bytes e (inr h) = only_digits line (line_read line bytes e).digits h

-- ---- lines
module _ (p : Panel) (b : Book) (s : Stands p b) (line : List ℕ) where
  frame_means : is_long line ≡ false → WithFrame b line (frame_number p (text_call (bytes_of line)))
  unfolding line_call
  frame_means short = go (bytes_of line) refl
    where
      go : (o : Option (List ℕ)) → bytes_of line ≡ o → WithFrame b line (frame_number p (text_call o))
      go none e = inl (inl (no_pairs line e), refl)
      go (some bytes) e = by_form (formed bytes)
        where
          refuted : (NoFrame bytes → ⊥) → NoPairs line ⊎ ((other : List ℕ) × (bytes_of line ≡ some other) × NoFrame other) → ⊥
          refuted h (inl z) = pairs line bytes e z
          refuted h (inr (other, q, z)) = h (subst NoFrame (some-injective other bytes (sym q ∙ e)) z)

          by_form : Formed bytes → WithFrame b line (frame_number p (frame_call bytes))
          by_form (inl (h, q)) = inl (inr (bytes, e, h), ap (frame_number p) q)
          by_form (inr (h, (c, q))) =
              inr (refuted h, (c, rw (short, e) q, subst (Means b c) (sym (ap (frame_number p) q)) (reply_means p b s c)))

  pub line_means : MeansLine b line (cond (is_long line) oversize (frame_number p (text_call (bytes_of line))))
  line_means = when (WithFrame b line) (is_long line) oversize (frame_number p (text_call (bytes_of line))) (decides_less most_characters (length line)) frame_means
