-- What the buffer holds after all records, past the room for the kinds, is their rules' bytes, so the staging of what is written is the staging of the list. Assumes nothing.
use Prim.Native.Nat.{ℕ, zero, suc, ◌+◌, ◌*◌, ◌<◌, ◌≤◌}
use native.Mathlib.Nat.{le_refl}
use native.Mathlib.Omega.{arith}
use mathlib.Core.Path.{◌≡◌, refl, sym, ap, ◌∙◌}
use mathlib.Core.List.{List, [], ◌∷◌, ◌++◌}
use lib.ListN.{length, get_or, set, take, drop, length-set, length-drop}
use lib.Seq.{take-suc, take-suc-set, take-length, drop-set-add}
use Rattle.expression.specs.Limits.{most_operators, most_rules}
use Rattle.expression.specs.Refusal.{oversize}
use Rattle.disambiguation.specs.SheetChecks.{rule_bytes}
use Rattle.sheet.specs.Lists.{buffer_bytes}
use Rattle.run.specs.Call.{stage_list}
use Rattle.monitor.specs.CallContracts.{Stages}
use Rattle.rule_list.specs.Records.{rules_in, put_at, StagesList}
use Rattle.rule_list.specs.declared.Rule.{Rule}
use Rattle.rule_list.proofs.Refusals.{over_rules}

-- what is read past a list's end: no walk does
abbrev pub no_rule : Rule
no_rule = record { kind = 0; first = 0; second = 0 }

-- the buffer after the first k records
abbrev pub written_to : List Rule → ℕ → List ℕ → List ℕ
written_to list zero bytes = bytes
written_to list (suc k) bytes = put_at (written_to list k bytes) k (get_or list k no_rule)

-- ---- lengths
length_written_to : (list : List Rule) (k : ℕ) (bytes : List ℕ) → length (written_to list k bytes) ≡ length bytes
length_written_to list zero bytes = refl
length_written_to list (suc k) bytes = simp (length-set, length_written_to list k bytes)

length_rules_in : (list : List Rule) → length (rules_in list) ≡ length list
unfolding rules_in
length_rules_in [] = refl
length_rules_in (r ∷ rs) = ap suc (length_rules_in rs)

-- ---- one record more
-- up to a place just written
up_to : (l : List ℕ) (p a m : ℕ) → m ≡ suc p → p < length l → take m (set l p a) ≡ take p l ++ (a ∷ [])
up_to l p a m e h = ap (λ (k : ℕ). take k (set l p a)) e ∙ take-suc-set l p a h

-- three bytes written side by side come last
ends_in : (l : List ℕ) (p a b c : ℕ) → p + 2 < length l
    → take (p + 3) (set (set (set l p a) (p + 1) b) (p + 2) c) ≡ ((take p l ++ (a ∷ [])) ++ (b ∷ [])) ++ (c ∷ [])
ends_in l p a b c h =
    up_to (set (set l p a) (p + 1) b) (p + 2) c (p + 3) (omega arith) (omega (arith, h, length-set (set l p a) (p + 1) b, length-set l p a))
    ∙ ap (λ (s : List ℕ). s ++ (c ∷ []))
    (up_to (set l p a) (p + 1) b (p + 2) (omega arith) (omega (arith, h, length-set l p a)) ∙ ap (λ (s : List ℕ). s ++ (b ∷ [])) (up_to l p a (p + 1) (omega arith) (omega (arith, h))))

-- a byte written past the room for the kinds
drop_set : (l : List ℕ) (at k a : ℕ) → at ≡ most_operators + k → drop most_operators (set l at a) ≡ set (drop most_operators l) k a
drop_set l at k a e = ap (λ (j : ℕ). drop most_operators (set l j a)) e ∙ drop-set-add most_operators l k a

drop_put_at : (l : List ℕ) (i : ℕ) (r : Rule) → drop most_operators (put_at l i r) ≡ set (set (set (drop most_operators l) (i * 3) r.kind) (i * 3 + 1) r.first) (i * 3 + 2) r.second
drop_put_at l i r =
    let at : ℕ = most_operators + i * 3 in
    drop_set (set (set l at r.kind) (at + 1) r.first) (at + 2) (i * 3 + 2) r.second (omega arith)
    ∙ ap (λ (s : List ℕ). set s (i * 3 + 2) r.second)
    (drop_set (set l at r.kind) (at + 1) (i * 3 + 1) r.first (omega arith) ∙ ap (λ (s : List ℕ). set s (i * 3 + 1) r.first) (drop_set l at (i * 3) r.kind refl))

last_rule : (list : List Rule) (r : Rule) → rule_bytes (rules_in (list ++ (r ∷ []))) ≡ ((rule_bytes (rules_in list) ++ (r.kind ∷ [])) ++ (r.first ∷ [])) ++ (r.second ∷ [])
unfolding rule_bytes rules_in
last_rule [] r = refl
last_rule (x ∷ xs) r = ap (λ (s : List ℕ). x.kind ∷ x.first ∷ x.second ∷ s) (last_rule xs r)

module _ (list : List Rule) (bytes : List ℕ) (size : length bytes ≡ buffer_bytes) (few : length list ≤ most_rules) where
  -- the first k records are written
  written_to_lem : (k : ℕ) → k ≤ length list → take (k * 3) (drop most_operators (written_to list k bytes)) ≡ rule_bytes (rules_in (take k list))
  unfolding rule_bytes rules_in
  written_to_lem zero h = refl
  written_to_lem (suc k) h =
      let r : Rule = get_or list k no_rule in
      let before : List ℕ = drop most_operators (written_to list k bytes) in
      ap (λ (m : ℕ). take m (drop most_operators (put_at (written_to list k bytes) k r))) three_more
      ∙ ap (take (k * 3 + 3)) (drop_put_at (written_to list k bytes) k r)
      ∙ ends_in before (k * 3) r.kind r.first r.second (omega (arith, length-drop most_operators (written_to list k bytes), length_written_to list k bytes))
      ∙ ap (λ (s : List ℕ). ((s ++ (r.kind ∷ [])) ++ (r.first ∷ [])) ++ (r.second ∷ [])) (written_to_lem k (omega arith))
      ∙ sym (last_rule (take k list) r)
      ∙ ap (λ (l : List Rule). rule_bytes (rules_in l)) (sym (take-suc list k no_rule h))
    where
      three_more : suc k * 3 ≡ k * 3 + 3
      three_more = omega arith

  -- All records written: past the room for the kinds the buffer begins with their rules' bytes.
  written_bytes : take (length list * 3) (drop most_operators (written_to list (length list) bytes)) ≡ rule_bytes (rules_in list)
  written_bytes = written_to_lem (length list) (le_refl (length list)) ∙ ap (λ (l : List Rule). rule_bytes (rules_in l)) (take-length list)

-- ---- the staging
module _ (staged : List ℕ) (n : ℕ) (kinds : List ℕ) (list : List Rule) where
  -- Over the most records is refused as too large, and nothing changes.
  pub list_over : most_rules < length list → Stages staged (stage_list n kinds (rules_in list)) oversize staged
  list_over many = over_rules staged n kinds (rules_in list) (omega (arith, many, length_rules_in list))

  -- The staging of the records written is the staging of the list.
  pub list_staged : (bytes : List ℕ) {after : List ℕ} {i r : ℕ} {later : List ℕ} → length bytes ≡ buffer_bytes → length list ≤ most_rules → i ≡ length list
      → after ≡ written_to list i bytes → StagesList staged n kinds after (length list) r later → Stages staged (stage_list n kinds (rules_in list)) r later
  list_staged bytes size few all e s = s.stages (rules_in list) (rw (e, all) (written_bytes list bytes size few))
