-- A panel as it is lent: three references. Assumes nothing.
use Rattle.std.specs.Prelude.{◌≡◌}
use Rattle.places.specs.Memory.{Memory, memory}
use Rattle.frame.specs.declared.panel.Panel.{Panel}

-- the memory that it refers to
abbrev pub memory_in : Panel → Memory
memory_in p = memory p.sheet.now p.staged.now p.places.now

-- It holds the same references, whatever was written through them.
abbrev pub SameReferences : Panel → Panel → Type 0
SameReferences p q = (q.sheet.ghost_name ≡ p.sheet.ghost_name) × (q.staged.ghost_name ≡ p.staged.ghost_name) × (q.places.ghost_name ≡ p.places.ghost_name)
