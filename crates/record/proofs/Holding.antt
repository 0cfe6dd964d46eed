-- A record at the front of more bytes. Assumes nothing.
use Prim.Native.Nat.{ℕ, ◌≤◌}
use native.Mathlib.Omega.{arith}
use mathlib.Core.Path.{◌≡◌, refl, ap, sym, ◌∙◌}
use mathlib.Core.List.{List, [], append-nil}
use lib.ListN.{length, take, length-take}
use lib.Seq.{take_at}
use Rattle.record.specs.Front.{front}

pub front_short : (size : ℕ) (whole : List ℕ) → length (front size whole) ≤ size
unfolding front
front_short size whole = omega (arith, length-take size whole)

pub front_all : (bytes : List ℕ) → front (length bytes) bytes ≡ bytes
unfolding front
front_all bytes = ap (take (length bytes)) (sym (append-nil bytes)) ∙ take_at bytes [] (length bytes) refl
