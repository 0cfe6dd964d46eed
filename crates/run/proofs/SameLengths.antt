-- A switch keeps the length of every held record. Assumes nothing.
use Prim.Native.Nat.{ℕ}
use native.Mathlib.Omega.{arith}
use mathlib.Core.Path.{◌≡◌, ap, sym, ◌∙◌}
use mathlib.Core.Option.{some}
use mathlib.Core.List.{List, ◌∷◌, ◌++◌}
use lib.ListN.{length, length-append}
use Rattle.expression.specs.Token.{class}
use Rattle.expression.specs.Tree.{Tree, record_of}
use Rattle.expression.specs.Checks.{record_bytes}
use Rattle.expression.proofs.Classes.{brackets}
use Rattle.expression.proofs.Lengths.{record_length}
use Rattle.expression.proofs.Cond.{by_cond}
use Rattle.run.specs.Promises.{ops}
use Rattle.run.specs.Call.{Call, switch}
use Rattle.run.specs.Run.{is_accepted, last_said, last_put, HoldsTree}
use Rattle.run.proofs.Filling.{holds_last_put, filled_exactly_if_put}

-- A held record is as long as a record of the row that was put last.
held_length : (cs : List Call) (k : ℕ) (t : Tree) (row : List ℕ) → HoldsTree cs k t → last_put k cs ≡ some row → length (record_of t) ≡ record_bytes row
held_length cs k t row h q =
    let (v, c, g) = holds_last_put cs k row q in
    let size = length-append (record_of t) (record_of v) in
    sym (h.fetches_record (record_of t ++ record_of v) (omega (arith, size))).1 ∙ (g.fetches_record (record_of t ++ record_of v) (omega (arith, size))).1
    ∙ record_length (class (ops cs)) (brackets (ops cs)) v c.over ∙ ap record_bytes c.yields

pub switch_keeps_lengths : (cs : List Call) (k : ℕ) (t u : Tree) → HoldsTree cs k t → HoldsTree (switch ∷ cs) k u → length (record_of t) ≡ length (record_of u)
unfolding last_put last_said
switch_keeps_lengths cs k t u h g =
    let (row, q) = (filled_exactly_if_put cs k).0 (t, h) in
    held_length cs k t row h q ∙ sym (held_length (switch ∷ cs) k u row g (by_cond (λ slot. slot ≡ some row) (is_accepted cs switch) (λ _. q) (λ _. q)))
