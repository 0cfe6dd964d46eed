-- The relation of a lent sheet, as the crate `relation` has it. Assumes nothing.
unfoldable pub use Rattle.relation.specs.Relation.{bit_of, closes_in}
