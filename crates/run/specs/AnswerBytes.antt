-- The bytes that the book answers to an accepted question, in the terms of docs/REFERENCE.md, section 9. Assumes nothing.
use Rattle.std.specs.Prelude.{ℕ, ◌≡◌, List, []}
use Rattle.std.proofs.Math.Option.{Option, none, some}
use Rattle.expression.specs.Token.{class}
use Rattle.expression.specs.Tree.{Tree, record_of, Over}
use Rattle.expression.specs.Tree as tree
use Rattle.disambiguation.specs.Conflicts.{ConflictFreeTree}
use Rattle.brackets.specs.SameMeaning.{ShortestRow}
use Rattle.run.specs.Image.{image_of}
use Rattle.run.specs.Call.{Question, fetch_record, fetch_row, image, build, repair, judge, yield, operand, shortest_row}
use Rattle.run.specs.Book.{Book, slot_row, SlotTree}

module _ (b : Book) where
  -- t, over the book's operators, is the tree that the record is of
  abbrev pub Records : List ℕ → Tree → Type 0
  Records bytes t = Over (class b.operators) t × (record_of t ≡ bytes)

  -- a place's image: of its slot's tree, or all 00 where the slot is blank
  abbrev pub Image : ℕ → Option (List ℕ) → List ℕ → Type 0
  Image k none answer = answer ≡ image_of []
  Image k (some row) answer = (t : Tree) × SlotTree b k t × (answer ≡ image_of (record_of t))

  -- the answer's bytes, of an accepted question
  abbrev pub AnswerIs : Question → List ℕ → Type 0
  AnswerIs (fetch_record k out) answer = (t : Tree) × SlotTree b k t × (answer ≡ record_of t)
  AnswerIs (fetch_row k out) answer = answer ≡ slot_row b k
  AnswerIs (image k out) answer = Image k (b.slots k) answer
  AnswerIs (build row out) answer = (t : Tree) × ConflictFreeTree b.operators b.rules row t × (answer ≡ record_of t)
  AnswerIs (repair bytes out) answer =
      (t : Tree) × (u : Tree) × Records bytes t × ConflictFreeTree b.operators b.rules (tree.yield t) u × (answer ≡ record_of u)
  AnswerIs (judge bytes) answer = answer ≡ []
  AnswerIs (yield bytes out) answer = (t : Tree) × Records bytes t × (answer ≡ tree.yield t)
  AnswerIs (operand right bytes) answer = answer ≡ []
  AnswerIs (shortest_row bytes out) answer = (t : Tree) × Records bytes t × ShortestRow b.operators b.rules (tree.yield t) answer
