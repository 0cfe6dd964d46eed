-- Of every tree's row the left-to-right machine makes a tree: of the same row, and conflict-free under the relation that it reads by. Assumes nothing.
use Prim.Native.Nat.{ℕ}
use mathlib.Core.Path.{◌≡◌, refl, ap, sym, ◌∙◌}
use mathlib.Core.Bool.{Bool, false}
use mathlib.Core.Option.{some}
use mathlib.Core.List.{List, [], ◌∷◌, ◌++◌, append_assoc}
use Rattle.expression.specs.Token.{Class, Infix, Prefix, opening, closing}
use Rattle.expression.specs.Tree.{Tree, reading, bracket, binary, prefix, yield, Over}
use Rattle.expression.proofs.Classes.{Brackets}
use Rattle.disambiguation.specs.Edges.{shown_as_left_operand}
use Rattle.disambiguation.specs.Conflicts.{conflicts}
use Rattle.disambiguation.specs.LeftToRight.{after, ahead, Stack, bottom, opened, waiting, due, have, close, everything, shut, whole, finish, where_due, before, where_read, run, parse}
use Rattle.disambiguation.proofs.Free.{None, count_of_free, seen_on_edge}
use Rattle.disambiguation.proofs.LeftToRight.{run_append, close_remains, Holds}
use Rattle.disambiguation.proofs.MachineInvariant.{Bare, bare_right, tokens_of, tokens_waiting, base, base_close, yields, Good, Stands, close_stands, close_holds, close_yields}

-- a bracket node after a stack, by what stands inside it
tokens_bracket : (s : Stack) (t : Tree) → tokens_of s ++ yield (bracket t) ≡ (tokens_of (opened s) ++ yield t) ++ (closing ∷ [])
tokens_bracket s t =
    sym (append_assoc (tokens_of (opened s)) (yield t) (closing ∷ []) ∙ append_assoc (tokens_of s) (opening ∷ []) (yield t ++ (closing ∷ [])))

module _ (closes : ℕ → ℕ → Bool) (k : ℕ → Class) where
  -- After a tree's row: its last operand, bare, after a stack.
  record Read (t₀ : Tree) (s₀ : Stack) : Type 0 where
    stack : Stack
    operand : Tree
    runs : run closes k (yield t₀) (due s₀) ≡ have stack operand
    bare : Bare operand
    stands : Stands closes k stack operand (tokens_of s₀ ++ yield t₀)
    same_base : base stack ≡ base s₀

  -- t is what the machine makes of the tokens, and a conflict-free tree of them
  pub record Makes (tokens : List ℕ) (t : Tree) : Type 0 where
    pub parses : parse closes k tokens ≡ some t
    pub over : Over k t
    pub yields_row : yield t ≡ tokens
    pub free : conflicts (yields closes) closes t ≡ 0

  module _ (brackets : Brackets k) where
    -- the bracket around what was read inside it
    enclosed : (t₀ : Tree) (s₀ : Stack) → Read t₀ (opened s₀) → Read (bracket t₀) s₀
    enclosed t₀ s₀ q =
        go (close everything q.stack q.operand).0 (close everything q.stack q.operand).1 refl
        (close_stands closes k everything q.stack q.operand (tokens_of (opened s₀) ++ yield t₀) q.stands)
        (close_remains everything q.stack q.operand ∙ q.same_base)
      where
        go : (s : Stack) (t : Tree) → close everything q.stack q.operand ≡ (s, t) → Stands closes k s t (tokens_of (opened s₀) ++ yield t₀) → s ≡ opened s₀
            → Read (bracket t₀) s₀
        go s t e h b =
            let g = rw b at h in
            record {
              stack = s₀;
              operand = bracket t;
              runs =
                  ap (λ x. run closes k (yield t₀ ++ (closing ∷ [])) (where_due x opening s₀)) brackets.opens
                  ∙ run_append closes k (yield t₀) (closing ∷ []) (due (opened s₀))
                  ∙ ap (run closes k (closing ∷ [])) q.runs
                  ∙ ap (λ x. where_read closes x closing q.stack q.operand) brackets.closes
                  ∙ ap (λ (x : Stack × Tree). shut x.0 x.1) e
                  ∙ ap (λ x. shut x t) b;
              bare = tt;
              stands = record {
                over = g.over;
                free = g.free;
                held = tt;
                good = g.good;
                reads = tokens_bracket s₀ t ∙ ap (λ x. x ++ (closing ∷ [])) g.reads ∙ sym (tokens_bracket s₀ t₀);
              };
              same_base = refl;
            }

    -- an operator between two trees
    joined : (o : ℕ) → k o ≡ Infix → (l r : Tree) (s₀ : Stack) → Read l s₀ → ((s : Stack) → Good closes k s → Read r s) → Read (binary o l r) s₀
    joined o ho l r s₀ q f =
        go (close (before closes o) q.stack q.operand).0 (close (before closes o) q.stack q.operand).1 refl
        (close_stands closes k (before closes o) q.stack q.operand (tokens_of s₀ ++ yield l) q.stands)
        (seen_on_edge (λ x. yields closes o x ≡ false) (close (before closes o) q.stack q.operand).1
        (close_yields closes o q.stack q.operand (bare_right (λ x. yields closes o x ≡ false) q.operand q.bare)))
        (close_holds closes o q.stack q.operand)
        (base_close (before closes o) q.stack q.operand ∙ q.same_base)
      where
        go : (s : Stack) (t : Tree) → close (before closes o) q.stack q.operand ≡ (s, t) → Stands closes k s t (tokens_of s₀ ++ yield l)
            → None (yields closes o) (shown_as_left_operand t) → Holds closes s o → base s ≡ base s₀ → Read (binary o l r) s₀
        go s t e h none holds b =
            let p = f (waiting (after t o) s) (ho, h.over, h.free, none, holds, h.good) in
            record {
              stack = p.stack;
              operand = p.operand;
              runs =
                  run_append closes k (yield l) (o ∷ yield r) (due s₀)
                  ∙ ap (run closes k (o ∷ yield r)) q.runs
                  ∙ ap (λ x. run closes k (yield r) (where_read closes x o q.stack q.operand)) ho
                  ∙ ap (λ (x : Stack × Tree). run closes k (yield r) (due (waiting (after x.1 o) x.0))) e
                  ∙ p.runs;
              bare = p.bare;
              stands = record {
                over = p.stands.over;
                free = p.stands.free;
                held = p.stands.held;
                good = p.stands.good;
                reads =
                    p.stands.reads
                    ∙ tokens_waiting t o s (yield r)
                    ∙ sym (append_assoc (tokens_of s) (yield t) (o ∷ yield r))
                    ∙ ap (λ x. x ++ o ∷ yield r) h.reads
                    ∙ append_assoc (tokens_of s₀) (yield l) (o ∷ yield r);
              };
              same_base = p.same_base ∙ b;
            }

    -- a prefix operator before a tree
    led : (p : ℕ) → k p ≡ Prefix → (t : Tree) (s₀ : Stack) → Read t (waiting (ahead p) s₀) → Read (prefix p t) s₀
    led p hp t s₀ q =
        record {
          stack = q.stack;
          operand = q.operand;
          runs = ap (λ x. run closes k (yield t) (where_due x p s₀)) hp ∙ q.runs;
          bare = q.bare;
          stands = record {
            over = q.stands.over;
            free = q.stands.free;
            held = q.stands.held;
            good = q.stands.good;
            reads = q.stands.reads ∙ append_assoc (tokens_of s₀) (p ∷ []) (yield t);
          };
          same_base = q.same_base;
        }

    read : (t₀ : Tree) → Over k t₀ → (s₀ : Stack) → Good closes k s₀ → Read t₀ s₀
    read (reading a) h s₀ g =
        record {
          stack = s₀;
          operand = reading a;
          runs = rw h;
          bare = tt;
          stands = record { over = h; free = tt; held = tt; good = g; reads = refl };
          same_base = refl;
        }
    read (bracket t) h s₀ g = enclosed t s₀ (read t h (opened s₀) g)
    read (binary o l r) h s₀ g = joined o h.0 l r s₀ (read l h.1 s₀ g) (read r h.2)
    read (prefix p t) h s₀ g = led p h.0 t s₀ (read t h.1 (waiting (ahead p) s₀) (h.0, g))

    -- Of every tree's row a tree is made.
    pub parse_makes : (t₀ : Tree) → Over k t₀ → (t : Tree) × Makes (yield t₀) t
    unfolding parse
    parse_makes t₀ h =
        go (close everything q.stack q.operand).0 (close everything q.stack q.operand).1 refl
        (close_stands closes k everything q.stack q.operand (yield t₀) q.stands) (close_remains everything q.stack q.operand ∙ q.same_base)
      where
        q : Read t₀ bottom
        q = read t₀ h bottom tt

        go : (s : Stack) (t : Tree) → close everything q.stack q.operand ≡ (s, t) → Stands closes k s t (yield t₀) → s ≡ bottom → (t : Tree) × Makes (yield t₀) t
        go s t e h b =
            let g = rw b at h in (
              t,
              record {
                parses = ap finish q.runs ∙ ap (λ (x : Stack × Tree). whole x.0 x.1) e ∙ ap (λ x. whole x t) b;
                over = g.over;
                yields_row = g.reads;
                free = count_of_free (yields closes) closes t g.free;
              },
            )
