-- In `parser::build::Notes::free_place`, the word at `first` has one place more, and the operator is noted. Assumes nothing.
use Rattle.std.proofs.Common.{ap, ◌∙◌}
use Rattle.parser.specs.Notes.{raised}
use Rattle.parser.proofs.OperatorWays.{place_freed}
use Rattle.parser.proofs.build.Notes.free_place.Goals as goal

pub returns : goal.returns
returns c = place_freed _ _ _ c.requires.1 c.self.view_is (c.with_place.ensures ∙ ap raised c.note_at.ensures) c.new.ensures c.push.ensures
