-- When one tie more lets a path of arrows return to its group, where none did: an arrow, where its follower leads to its leader;
-- a group tie, where one of its ends leads to the other and not back. Assumes nothing.
use mathlib.Core.Path.{◌≡◌, refl, sym, ap, ◌∙◌}
use mathlib.Core.Bool.{Bool, beq, true, false, not, ◌&&◌, ◌||◌, true≢false}
use mathlib.Core.List.{List}
use mathlib.Core.Logic.{◌⊎◌, inl, inr, ⊎_elim}
use Prim.Native.Nat.{ℕ, ◌≤◌, ◌<◌, min, max}
use native.Mathlib.Omega.{arith}
use lib.Dec.{ltb, eqb}
use borrow.Author.Tests.{lt-ltb}
use Rattle.rules.specs.Base.{outside}
use Rattle.rules.specs.Sets.{reach}
use Rattle.rules.specs.Window.{TieRecord, tie_key}
use Rattle.rules.specs.Ties.{is_group, is_arrow, make_tie, add_tie, tied, grouped, leading, acyclic}
use Rattle.rules.proofs.BaseLaws.{and_eqs, or_left, or_right, or_cases, or_map, and_both, no_true, Below, under, over, below, Same, same, other, same?}
use Rattle.rules.proofs.SoundParts.{inside_of}
use Rattle.rules.proofs.SortLaws.{all_insert, any_inserted}
use Rattle.rules.proofs.TieLaws.{arrow_of, arrow_not_group}
use Rattle.rules.proofs.PathLaws.{Way, stay, on, way_join, way_map, by_arrow, NoReturn, acyclic_clear, clear_acyclic}
use Rattle.rules.proofs.DemandEnds.{tie_old, tie_new}
use Rattle.layout.specs.Records.{ends_below}
use Rattle.graph.proofs.WayLaws.{reached, unreached, Round, around, back_or_arrow}

-- ONE TIE MORE
module _ (t : TieRecord) (ts : List TieRecord) where
  -- a tie of the longer list is an old one or the new one
  tied_added : (k : ℕ → Bool) (a b : ℕ) → tied (add_tie t ts) k a b ≡ true → (tied ts k a b ≡ true) ⊎ ((k t.kind ≡ true) × (t.leader ≡ a) × (t.follower ≡ b))
  unfolding tied add_tie
  tied_added k a b e = ⊎_elim (λ q. inr (and_eqs (k t.kind) t.leader a t.follower b q)) inl (any_inserted tie_key (λ u. k u.kind && eqb u.leader a && eqb u.follower b) t ts e)

  -- the old steps are there
  leading_old : (a b : ℕ) → leading ts a b ≡ true → leading (add_tie t ts) a b ≡ true
  unfolding leading grouped
  leading_old a b = or_map _ _ _ _ (or_map _ _ _ _ (tie_old t ts is_group a b) (tie_old t ts is_group b a)) (tie_old t ts is_arrow a b)

  -- an old path is a path
  old : {a b : ℕ} → Way (leading ts) a b → Way (leading (add_tie t ts)) a b
  old = way_map leading_old

  -- a new step is the new tie's, either way where it is a group tie
  leading_added : (a b : ℕ) → leading (add_tie t ts) a b ≡ true → (leading ts a b ≡ true) ⊎ (((t.leader ≡ a) × (t.follower ≡ b)) ⊎ ((is_group t.kind ≡ true) × (t.leader ≡ b) × (t.follower ≡ a)))
  unfolding leading grouped
  leading_added a b e = ⊎_elim
      (λ g. ⊎_elim (λ q. ⊎_elim (λ o. inl (or_left (tied ts is_group a b || tied ts is_group b a) _ (or_left (tied ts is_group a b) _ o))) (λ m. inr (inl (m.1, m.2))) (tied_added is_group a b q))
      (λ q. ⊎_elim (λ o. inl (or_left (tied ts is_group a b || tied ts is_group b a) _ (or_right (tied ts is_group a b) _ o))) (λ m. inr (inr (m.0, m.1, m.2))) (tied_added is_group b a q))
      (or_cases (tied (add_tie t ts) is_group a b) (tied (add_tie t ts) is_group b a) g))
      (λ q. ⊎_elim (λ o. inl (or_right (tied ts is_group a b || tied ts is_group b a) _ o)) (λ m. inr (inl (m.1, m.2))) (tied_added is_arrow a b q))
      (or_cases (tied (add_tie t ts) is_group a b || tied (add_tie t ts) is_group b a) (tied (add_tie t ts) is_arrow a b) e)

  -- AN ARROW
  module _ (arrow : is_arrow t.kind ≡ true) where
    arrow-step : (a b : ℕ) → leading (add_tie t ts) a b ≡ true → (leading ts a b ≡ true) ⊎ ((t.leader ≡ a) × (t.follower ≡ b))
    arrow-step a b e = ⊎_elim inl (⊎_elim inr (λ m. absurd (true≢false (sym m.0 ∙ arrow_not_group t.kind arrow)))) (leading_added a b e)

    -- it lets none return whose follower does not lead to its leader
    arrow_clear : NoReturn ts → (Way (leading ts) t.follower t.leader → ⊥) → NoReturn (add_tie t ts)
    arrow_clear clear u l f e w = go (tied_added is_arrow l f e) (around (leading ts) (leading (add_tie t ts)) (λ a. t.leader ≡ a) (λ b. t.follower ≡ b) arrow-step w)
      where
        go : (tied ts is_arrow l f ≡ true) ⊎ ((is_arrow t.kind ≡ true) × (t.leader ≡ l) × (t.follower ≡ f)) → Way (leading ts) f l ⊎ Round (leading ts) (λ a. t.leader ≡ a) (λ b. t.follower ≡ b) f l → ⊥
        go (inl o) (inl p) = clear l f o p
        go (inl o) (inr m) = u (way_join (on (rw m.comes m.fro) (by_arrow ts l f o)) (rw m.goes m.to))
        go (inr n) (inl p) = u (rw (n.1, n.2) p)
        go (inr n) (inr m) = u (rw (m.comes, n.1) m.fro)

    -- and else its own path returns
    arrow_returns : Way (leading ts) t.follower t.leader → NoReturn (add_tie t ts) → ⊥
    arrow_returns w h = h t.leader t.follower (tie_new t ts is_arrow arrow) (old w)

  -- A GROUP TIE
  module _ (group : is_group t.kind ≡ true) where
    -- an end of the new tie
    abbrev End : ℕ → Type 0
    End x = (t.leader ≡ x) ⊎ (t.follower ≡ x)

    -- a new step goes between its ends
    group_step : (a b : ℕ) → leading (add_tie t ts) a b ≡ true → (leading ts a b ≡ true) ⊎ (End a × End b)
    group_step a b e = ⊎_elim inl (⊎_elim (λ m. inr (inl m.0, inr m.1)) (λ m. inr (inr m.2, inl m.1))) (leading_added a b e)

    -- no arrow is new
    old_arrow : (l f : ℕ) → tied (add_tie t ts) is_arrow l f ≡ true → tied ts is_arrow l f ≡ true
    old_arrow l f e = ⊎_elim (λ o. o) (λ m. absurd (true≢false (sym group ∙ arrow_not_group t.kind m.0))) (tied_added is_arrow l f e)

    -- it lets none return where neither end leads to the other
    apart_clear : NoReturn ts → (Way (leading ts) t.leader t.follower → ⊥) → (Way (leading ts) t.follower t.leader → ⊥) → NoReturn (add_tie t ts)
    apart_clear clear u v l f e w = go (old_arrow l f e) (around (leading ts) (leading (add_tie t ts)) End End group_step w)
      where
        ends : tied ts is_arrow l f ≡ true → {x y : ℕ} → End x → End y → Way (leading ts) f x → Way (leading ts) y l → ⊥
        ends o (inl a) (inl b) p q = clear l f o (way_join p (rw (sym a ∙ b) q))
        ends o (inl a) (inr b) p q = v (rw (a, b) (way_join (on q (by_arrow ts l f o)) p))
        ends o (inr a) (inl b) p q = u (rw (a, b) (way_join (on q (by_arrow ts l f o)) p))
        ends o (inr a) (inr b) p q = clear l f o (way_join p (rw (sym a ∙ b) q))

        go : tied ts is_arrow l f ≡ true → Way (leading ts) f l ⊎ Round (leading ts) End End f l → ⊥
        go o (inl p) = clear l f o p
        go o (inr m) = ends o m.goes m.comes m.to m.fro

    -- where each leads to the other, a new path is an old one
    shrink : Way (leading ts) t.leader t.follower → Way (leading ts) t.follower t.leader → {x y : ℕ} → Way (leading (add_tie t ts)) x y → Way (leading ts) x y
    shrink p q stay = stay
    shrink p q (on {b = a} {c = b} w e) = way_join (shrink p q w)
        (⊎_elim (λ o. on stay o) (⊎_elim (λ m. rw (← m.0, ← m.1) p) (λ m. rw (← m.1, ← m.2) q)) (leading_added a b e))

    -- so it lets none return
    both_clear : NoReturn ts → Way (leading ts) t.leader t.follower → Way (leading ts) t.follower t.leader → NoReturn (add_tie t ts)
    both_clear clear p q l f e w = clear l f (old_arrow l f e) (shrink p q w)

    -- the new tie is a step either way
    there : leading (add_tie t ts) t.leader t.follower ≡ true
    unfolding leading grouped
    there = or_left (grouped (add_tie t ts) t.leader t.follower) _ (or_left (tied (add_tie t ts) is_group t.leader t.follower) _ (tie_new t ts is_group group))

    back : leading (add_tie t ts) t.follower t.leader ≡ true
    unfolding leading grouped
    back = or_left (grouped (add_tie t ts) t.follower t.leader) _ (or_right (tied (add_tie t ts) is_group t.follower t.leader) _ (tie_new t ts is_group group))

    -- where one leads to the other and not back, an arrow on the way returns
    one_returns : (a b : ℕ) → leading (add_tie t ts) b a ≡ true → Way (leading ts) a b → (Way (leading ts) b a → ⊥) → NoReturn (add_tie t ts) → ⊥
    one_returns a b s w u h = ⊎_elim u (λ m. h m.leader m.follower (tie_old t ts is_arrow m.leader m.follower m.arrow) (way_join (on (old m.fro) s) (old m.to))) (back_or_arrow ts w)

-- THE TESTS
beq_comm : (a b : Bool) → beq a b ≡ beq b a
beq_comm true true = refl
beq_comm true false = refl
beq_comm false true = refl
beq_comm false false = refl

module _ (n : ℕ) (t : TieRecord) (ts : List TieRecord) (ends : ends_below n ts ≡ true) (hl : t.leader < n) (hf : t.follower < n) (h : acyclic n ts ≡ true) where
  ends_added : ends_below n (add_tie t ts) ≡ true
  unfolding ends_below add_tie
  ends_added = all_insert tie_key (λ x y. y) (λ u. ltb u.leader n && ltb u.follower n) t (and_both (ltb t.leader n) _ (lt-ltb t.leader n hl) (lt-ltb t.follower n hf)) (λ y e. e) ts ends

  clear : NoReturn ts
  unfolding ends_below
  clear = acyclic_clear ts n ends h

  -- the longer list is acyclic
  is_acyclic : NoReturn (add_tie t ts) → acyclic n (add_tie t ts) ≡ true
  unfolding ends_below
  is_acyclic = clear_acyclic (add_tie t ts) n ends_added

  -- the longer list is not
  no_acyclic : (NoReturn (add_tie t ts) → ⊥) → acyclic n (add_tie t ts) ≡ false
  unfolding ends_below
  no_acyclic u = no_true (acyclic n (add_tie t ts)) (λ e. u (acyclic_clear (add_tie t ts) n ends_added e))

  -- an arrow returns just where its follower leads to its leader
  arrow-test : is_arrow t.kind ≡ true → reach n (leading ts) t.follower t.leader ≡ not (acyclic n (add_tie t ts))
  arrow-test k = go (reach n (leading ts) t.follower t.leader) refl
    where
      go : (b : Bool) → reach n (leading ts) t.follower t.leader ≡ b → b ≡ not (acyclic n (add_tie t ts))
      go true e = rw (no_acyclic (arrow_returns t ts k (reached n ts ends t.follower t.leader e)))
      go false e = rw (is_acyclic (arrow_clear t ts k clear (unreached n ts ends t.follower t.leader e)))

  -- a group tie returns just where one end leads to the other and not back
  group_test : is_group t.kind ≡ true → beq (reach n (leading ts) t.follower t.leader) (reach n (leading ts) t.leader t.follower) ≡ acyclic n (add_tie t ts)
  group_test k = go (reach n (leading ts) t.follower t.leader) (reach n (leading ts) t.leader t.follower) refl refl
    where
      go : (a b : Bool) → reach n (leading ts) t.follower t.leader ≡ a → reach n (leading ts) t.leader t.follower ≡ b → beq a b ≡ acyclic n (add_tie t ts)
      go true true p q = sym (is_acyclic (both_clear t ts k clear (reached n ts ends t.leader t.follower q) (reached n ts ends t.follower t.leader p)))
      go true false p q = sym (no_acyclic (one_returns t ts k t.follower t.leader (there t ts k) (reached n ts ends t.follower t.leader p) (unreached n ts ends t.leader t.follower q)))
      go false true p q = sym (no_acyclic (one_returns t ts k t.leader t.follower (back t ts k) (reached n ts ends t.leader t.follower q) (unreached n ts ends t.follower t.leader p)))
      go false false p q = sym (is_acyclic (apart_clear t ts k clear (unreached n ts ends t.leader t.follower q) (unreached n ts ends t.follower t.leader p)))

-- THE SAME OF A TIE AS IT IS MADE
-- a kind that is not an arrow's is a group tie's
group_of : (k : ℕ) → outside 1 3 k ≡ false → is_arrow k ≡ false → k ≡ 3
group_of k r a = let m = inside_of 1 3 k r in go m.0 m.1 (same? k 3)
  where
    go : 1 ≤ k → k ≤ 3 → {b : Bool} → Same k 3 b → k ≡ 3
    go p q (same e) = e
    go p q (other u) = absurd (true≢false (sym (arrow_of k (omega arith) (omega arith)) ∙ a))

module _ (n : ℕ) (ts : List TieRecord) (ends : ends_below n ts ≡ true) (k l f : ℕ) (hl : l < n) (hf : f < n) (h : acyclic n ts ≡ true) where
  pub arrow-made : is_arrow k ≡ true → reach n (leading ts) f l ≡ not (acyclic n (add_tie (make_tie k l f) ts))
  unfolding make_tie is_group
  arrow-made a = rw (arrow_not_group k a) (arrow-test n (record { kind = k; leader = l; follower = f }) ts ends hl hf h a)

  -- a group tie, stored with the lower number as leader
  pub group_made : outside 1 3 k ≡ false → is_arrow k ≡ false → not (beq (reach n (leading ts) f l) (reach n (leading ts) l f)) ≡ not (acyclic n (add_tie (make_tie k l f) ts))
  unfolding make_tie is_group
  group_made r a = rw (group_of k r a) (go (below l f))
    where
      three : (a b : ℕ) → a < n → b < n → beq (reach n (leading ts) b a) (reach n (leading ts) a b) ≡ acyclic n (add_tie (record { kind = 3; leader = a; follower = b }) ts)
      three a b ha hb = group_test n (record { kind = 3; leader = a; follower = b }) ts ends ha hb h refl

      go : {b : Bool} → Below l f b → not (beq (reach n (leading ts) f l) (reach n (leading ts) l f)) ≡ not (acyclic n (add_tie (record { kind = 3; leader = min l f; follower = max l f }) ts))
      go (under q) = let x : min l f ≡ l = omega arith in let y : max l f ≡ f = omega arith in rw (x, y) (ap not (three l f hl hf))
      go (over q) = let x : min l f ≡ f = omega arith in let y : max l f ≡ l = omega arith in rw (x, y) (ap not (beq_comm (reach n (leading ts) f l) (reach n (leading ts) l f) ∙ three f l hf hl))
