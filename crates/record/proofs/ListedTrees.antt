-- What each step of the count of listed trees gives, and what the count says of the bytes. Assumes nothing.
use Prim.Native.Nat.{ℕ, suc, ◌+◌, ◌-◌, ◌≤◌, ◌<◌}
use native.Mathlib.Omega.{arith}
use Rattle.std.specs.Prelude.{Some, None}
use Rattle.std.specs.Prelude as std
use mathlib.Core.Path.{◌≡◌, refl, ap, sym, ◌∙◌}
use mathlib.Core.Bool.{Bool, true, false, cond}
use mathlib.Core.Option.{Option, none, some}
use mathlib.Core.List.{List, [], ◌∷◌, ◌++◌, append_assoc, append-nil}
use lib.Dec.{ltb}
use lib.ListN.{length, get_or, take, length-append, take-append-drop, drop_of_length-le}
use lib.Seq.{drop-cons}
use borrow.Author.Rules.{rules}
use borrow.Author.Tests.{le-ltb}
use Rattle.expression.specs.Limits.{most_record_bytes}
use Rattle.expression.specs.Token.{Class, Infix, Prefix, Opening, Closing, Reading, Meaningless, Operators, class}
use Rattle.expression.specs.Tree.{Tree}
use Rattle.expression.specs.Decode.{and_then, prepend, only, trees_of, tree_of}
use Rattle.record.specs.Listing.{listed, one_tree, with_byte, listed_in}

-- the count goes the way of the trees
prepended : (k : Class) (c : ℕ) (ts : List Tree) → with_byte k (length ts) ≡ listed (prepend k c ts)
prepended Infix c [] = refl
prepended Infix c (l ∷ []) = refl
prepended Infix c (l ∷ r ∷ ts) = rw (le-ltb (suc (suc (length ts))) 2 (omega arith)) (ap Some (omega arith))
prepended Prefix c [] = refl
prepended Prefix c (t ∷ ts) = rw (le-ltb (suc (length ts)) 1 (omega arith))
prepended Opening c [] = refl
prepended Opening c (t ∷ ts) = rw (le-ltb (suc (length ts)) 1 (omega arith))
prepended Closing c ts = refl
prepended Reading c ts = ap Some (omega arith)
prepended Meaningless c ts = refl

-- at most one tree more
grows : (k : Class) (m n : ℕ) → Some n ≡ with_byte k m → n ≤ m + 1
grows Infix m n e = go (ltb m 2) e
  where
    go : (b : Bool) → Some n ≡ cond b None (Some (m - 1)) → n ≤ m + 1
    go true e = cc
    go false e = let z : n ≡ m - 1 = cc in omega arith
grows Prefix m n e = go (ltb m 1) e
  where
    go : (b : Bool) → Some n ≡ cond b None (Some m) → n ≤ m + 1
    go true e = cc
    go false e = let z : n ≡ m = cc in omega arith
grows Opening m n e = go (ltb m 1) e
  where
    go : (b : Bool) → Some n ≡ cond b None (Some m) → n ≤ m + 1
    go true e = cc
    go false e = let z : n ≡ m = cc in omega arith
grows Closing m n e = cc
grows Reading m n e = let z : n ≡ m + 1 = cc in omega arith
grows Meaningless m n e = cc

-- ---- the bytes behind those that are left
pub record Counted (ops : Operators) (bytes rest : List ℕ) (count : ℕ) : Type 0 where
  pub behind : List ℕ
  pub split : bytes ≡ rest ++ behind
  pub few : count ≤ length behind
  pub same : Some count ≡ listed_in ops behind

last_apart : (xs : List ℕ) → 1 ≤ length xs → xs ≡ take (length xs - 1) xs ++ get_or xs (length xs - 1) 0 ∷ []
last_apart xs h =
    sym (take-append-drop (length xs - 1) xs)
    ∙ ap (λ d. take (length xs - 1) xs ++ d) (drop-cons xs (length xs - 1) 0 (omega arith) ∙ ap (λ d. get_or xs (length xs - 1) 0 ∷ d) (drop_of_length-le xs {i = suc (length xs - 1)} (omega arith)))

-- bytes that list none list none with others before them
none_before : (ops : Operators) (xs ys : List ℕ) → None ≡ listed_in ops ys → None ≡ listed_in ops (xs ++ ys)
unfolding listed_in
none_before ops [] ys e = e
none_before ops (x ∷ xs) ys e = go (trees_of (class ops) (xs ++ ys)) (none_before ops xs ys e)
  where
    go : (o : Option (List Tree)) → None ≡ listed o → None ≡ listed (and_then o (prepend (class ops x) x))
    go none q = refl
    go (some ts) q = cc

module _ (ops : Operators) (bytes : List ℕ) where
  pub none_counted : Counted ops bytes bytes 0
  unfolding listed_in
  none_counted = record { behind = []; split = sym (append-nil bytes); few = omega arith; same = refl }

  module _ {rest : List ℕ} {count : ℕ} (l : Counted ops bytes rest count) (some_left : 1 ≤ length rest) where
    pub count_small : length bytes ≤ most_record_bytes → count < most_record_bytes
    count_small h = omega (arith, l.few, ap length l.split, length-append rest l.behind)

    behind_it : bytes ≡ take (length rest - 1) rest ++ (get_or rest (length rest - 1) 0 ∷ l.behind)
    behind_it =
        l.split ∙ ap (λ xs. xs ++ l.behind) (last_apart rest some_left)
        ∙ append_assoc (take (length rest - 1) rest) (get_or rest (length rest - 1) 0 ∷ []) l.behind

    counted_on : {r : std.Option ℕ} → r ≡ with_byte (class ops (get_or rest (length rest - 1) 0)) count → r ≡ listed_in ops (get_or rest (length rest - 1) 0 ∷ l.behind)
    unfolding listed_in
    counted_on {r} e = go (trees_of (class ops) l.behind) l.same
      where
        go : (o : Option (List Tree)) → Some count ≡ listed o → r ≡ listed (and_then o (prepend (class ops (get_or rest (length rest - 1) 0)) (get_or rest (length rest - 1) 0)))
        go none q = cc
        go (some ts) q =
            let z : count ≡ length ts = cc in
            e ∙ ap (with_byte (class ops (get_or rest (length rest - 1) 0))) z ∙ prepended (class ops (get_or rest (length rest - 1) 0)) (get_or rest (length rest - 1) 0) ts

    pub count_on : {n : ℕ} → Some n ≡ with_byte (class ops (get_or rest (length rest - 1) 0)) count → Counted ops bytes (take (length rest - 1) rest) n
    count_on {n} e =
        record {
          behind = get_or rest (length rest - 1) 0 ∷ l.behind;
          split = behind_it;
          few = omega (arith, l.few, grows (class ops (get_or rest (length rest - 1) 0)) count n e);
          same = counted_on e;
        }

    pub stopped : None ≡ with_byte (class ops (get_or rest (length rest - 1) 0)) count → None ≡ listed_in ops bytes
    stopped e = none_before ops (take (length rest - 1) rest) _ (counted_on e) ∙ ap (listed_in ops) (sym behind_it)

  pub all_counted : {rest : List ℕ} {count : ℕ} → Counted ops bytes rest count → length rest < 1 → Some count ≡ listed_in ops bytes
  all_counted {rest} {count} l h = l.same ∙ ap (listed_in ops) (go rest h l.split)
    where
      go : (rest : List ℕ) → length rest < 1 → bytes ≡ rest ++ l.behind → l.behind ≡ bytes
      go [] h e = sym e
      go (x ∷ xs) h e = absurd (omega arith)

pub ruleset trees_listed_ways = (none_counted, count_small, count_on, stopped, all_counted, rules)

-- ---- what the count says
module _ (ops : Operators) (bytes : List ℕ) where
  pub one_listed : listed_in ops bytes ≡ one_tree → (t : Tree) × (tree_of (class ops) bytes ≡ some t)
  unfolding listed_in tree_of
  one_listed e = go (trees_of (class ops) bytes) e
    where
      go : (o : Option (List Tree)) → listed o ≡ one_tree → (t : Tree) × (and_then o only ≡ some t)
      go none e = cc
      go (some []) e = cc
      go (some (t ∷ [])) e = (t, refl)
      go (some (t ∷ u ∷ ts)) e = cc

  pub read_listed : (t : Tree) → tree_of (class ops) bytes ≡ some t → listed_in ops bytes ≡ one_tree
  unfolding listed_in tree_of
  read_listed t e = go (trees_of (class ops) bytes) e
    where
      go : (o : Option (List Tree)) → and_then o only ≡ some t → listed o ≡ one_tree
      go none e = cc
      go (some []) e = cc
      go (some (t ∷ [])) e = refl
      go (some (t ∷ u ∷ ts)) e = cc
