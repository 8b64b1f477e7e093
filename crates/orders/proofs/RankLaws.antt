-- Labels by their ranks, and arrows as masks of ranks. Assumes nothing.
use mathlib.Core.Path.{◌≡◌, refl, sym, ap, ap₂, ◌∙◌}
use mathlib.Core.Bool.{Bool, true, false, cond, ◌&&◌, ◌||◌, and-true, or-false}
use mathlib.Core.List.{List}
use Prim.Native.Nat.{ℕ, suc, ◌+◌, ◌*◌, ◌%◌, ◌^◌, ◌≤◌, ◌<◌}
use native.Mathlib.Nat.{add-zero}
use native.Mathlib.Numerals.{add-one}
use Rattle.std.specs.Int.{from_bool}
use native.Mathlib.Omega.{arith}
use borrow.Author.Tests.{ne_eqb}
use lib.Bits.{bit_or}
use lib.Dec.{eqb}
use lib.ListN.{length, get_or, set, replicate, get_or-replicate}
use lib.Seq.{get_or-set_same, get_or-set_other}
use Rattle.rules.specs.Base.{any_below, count_below}
use Rattle.rules.specs.Sets.{Set, everything}
use Rattle.rules.specs.Orders.{ways}
use Rattle.rules.specs.Window.{TieRecord}
use Rattle.rules.specs.Ties.{is_arrow}
use Rattle.rules.proofs.BaseLaws.{Same, same, other, same?, eqb_same, eqb_iff, eqb_sym}
use Rattle.rules.proofs.BoundLaws.{any_ext}
use Rattle.rules.proofs.RankLaws.{rank_same, rank_most}
use Rattle.rules.proofs.TurnLaws.{found-next}
use Rattle.rules.proofs.WaysLaws.{ways_ext, numbered, ways-rank}
use Rattle.layout.specs.Codec.{unpack}
use Rattle.layout.specs.Records.{tie_at}
use Rattle.layout.proofs.SectionLaws.{Bytes, get_or_table0}
use Rattle.cells.proofs.Digits.{unpack_zero, unpack_or, unpack_mod, unpack-one}
use Rattle.cycles.specs.Graph.{Between, arrow_in, graph_in, graph_of, edge}
use Rattle.orders.specs.Ways.{leads}
use Rattle.orders.specs.Ranks.{ranks_of, rank_of, ranked, Leaderless, Led}

-- one number more looked at
pub count_next : (s : Set) (k q r : ℕ) (b : Bool) → q ≡ count_below k s → b ≡ s k → r ≡ from_bool b → q + r ≡ count_below (k + 1) s
unfolding count_below
count_next s k q r b e f g = rw (add-one k, g, e, f) (go (s k))
  where
    go : (t : Bool) → count_below k s + from_bool t ≡ cond t (suc (count_below k s)) (count_below k s)
    go true = add-one (count_below k s)
    go false = add-zero (count_below k s)

-- `1 << t` in 16 bits
one_in : (t k : ℕ) → k < 16 → unpack ((1 * 2 ^ t) % 2 ^ 16) k ≡ eqb k t
one_in t k h = unpack_mod 16 (1 * 2 ^ t) k h ∙ sym (unpack_mod 64 (1 * 2 ^ t) k (omega arith)) ∙ unpack-one t k (omega arith)

-- one more that is led
pub lead_more : (masks : List ℕ) (from to a b : ℕ) → from < length masks → b < 16 → leads (set masks from (bit_or (get_or masks from 0) ((1 * 2 ^ to) % 2 ^ 16))) a b ≡ leads masks a b || eqb from a && eqb to b
unfolding leads
lead_more masks from to a b h l = go (same? a from)
  where
    go : {x : Bool} → Same a from x → unpack (get_or (set masks from (bit_or (get_or masks from 0) ((1 * 2 ^ to) % 2 ^ 16))) a 0) b ≡ unpack (get_or masks a 0) b || eqb from a && eqb to b
    go (same q) = rw (q, get_or-set_same masks from (bit_or (get_or masks from 0) ((1 * 2 ^ to) % 2 ^ 16)) 0 h, eqb_same from)
        (unpack_or (get_or masks from 0) ((1 * 2 ^ to) % 2 ^ 16) b ∙ ap (λ (x : Bool). unpack (get_or masks from 0) b || x) (one_in to b l ∙ eqb_sym b to))
    go (other q) = rw (get_or-set_other masks from a (bit_or (get_or masks from 0) ((1 * 2 ^ to) % 2 ^ 16)) 0 q, ne_eqb from a (λ z. q (sym z))) (sym (or-false (unpack (get_or masks a 0) b)))

-- none more, where a test failed
pub lead_same : (x t : Bool) → t ≡ false → x ≡ x || t
lead_same x t e = sym (ap (λ (y : Bool). x || y) e ∙ or-false x)

-- ARROWS, tie by tie
pub led-none : (t : ℕ → TieRecord) (labels ranks masks : List ℕ) → Leaderless masks → Led t labels ranks 0 masks
unfolding any_below
led-none t labels ranks masks m = record { each = λ a b p q. m.none a b p }

pub led-next : (t : ℕ → TieRecord) (labels ranks masks out : List ℕ) (j : ℕ) → Led t labels ranks j masks
    → ((a b : ℕ) → a < 12 → b < 12 → leads out a b ≡ leads masks a b || ranked t labels ranks a b j) → Led t labels ranks (j + 1) out
led-next t labels ranks masks out j m f = record { each = λ a b p q. found-next (ranked t labels ranks a b) j (leads masks a b) (leads out a b) (m.each a b p q) (f a b p q) }

-- none in masks of 0
pub leaderless : Leaderless (replicate 12 0)
unfolding leads
leaderless = record { none = λ a b h. ap (λ (x : ℕ). unpack x b) (get_or-replicate {A = ℕ} 12 a 0 0 h) ∙ unpack_zero b }

-- ties that are the same below the count
pub led_ext : (t u : ℕ → TieRecord) (labels ranks masks : List ℕ) (m n : ℕ) → m ≡ n → ((j : ℕ) → j < n → t j ≡ u j) → Led t labels ranks m masks → Led u labels ranks n masks
unfolding ranked
led_ext t u labels ranks masks m n e alike l = record {
  each = λ a b p q. rw e at (l.each a b p q) ∙ any_ext (ranked t labels ranks a b) (ranked u labels ranks a b) n (λ j h. rw (alike j h));
}

-- THE ORDERS
module _ (bs labels : List ℕ) (count : ℕ) (s : Set) (bytes : Bytes labels) (between : Between (graph_of bs labels) count s) (masks : List ℕ) (led : Led (tie_at bs) labels (ranks_of s) count masks) (few : count_below 256 s ≤ 12) where
  -- ranks of members are the same where the members are
  rank_is : (x h : ℕ) → x < 256 → s x ≡ true → s h ≡ true → eqb (get_or (ranks_of s) x 0) (count_below h s) ≡ eqb x h
  unfolding ranks_of
  rank_is x h l e f =
      let r : get_or (ranks_of s) x 0 ≡ count_below x s = get_or_table0 256 (λ k. count_below k s) x 0 l in
      eqb_iff (get_or (ranks_of s) x 0) (count_below h s) x h (λ q. rank_same s x h e f (sym r ∙ q)) (λ q. r ∙ ap (λ (y : ℕ). count_below y s) q)

  -- the masks are the arrows between labels, by rank
  masks_are : (h g : ℕ) → h < 256 → g < 256 → s h ≡ true → s g ≡ true → edge (graph_of bs labels) count h g ≡ leads masks (count_below h s) (count_below g s)
  unfolding edge graph_in arrow_in ranked rank_of
  masks_are h g i j p q = sym (led.each _ _ (omega (arith, rank_most s 256 h p i)) (omega (arith, rank_most s 256 g q j)) ∙ any_ext _ _ count (λ k l. go k l (is_arrow (tie_at bs k).kind) refl))
    where
      go : (k : ℕ) → k < count → (b : Bool) → is_arrow (tie_at bs k).kind ≡ b
          → b && eqb (get_or (ranks_of s) (get_or labels (tie_at bs k).leader 0) 0) (count_below h s) && eqb (get_or (ranks_of s) (get_or labels (tie_at bs k).follower 0) 0) (count_below g s)
          ≡ b && eqb (get_or labels (tie_at bs k).leader 0) h && eqb (get_or labels (tie_at bs k).follower 0) g
      go k l true e = ap₂ ◌&&◌ (rank_is (get_or labels (tie_at bs k).leader 0) h (bytes _) (between.leads k l e) p) (rank_is (get_or labels (tie_at bs k).follower 0) g (bytes _) (between.follows k l e) q)
      go k l false e = refl

  -- so the orders of ranks are as many as those of labels
  pub orders_are : ways (count_below 256 s) (leads masks) (count_below 256 s) everything ≡ ways 256 (edge (graph_of bs labels) count) (count_below 256 s) s
  unfolding everything numbered
  orders_are = sym (ways_ext 256 (edge (graph_of bs labels) count) (count_below 256 s) s (numbered s everything) (λ g l. sym (and-true (s g)))
      ∙ ways-rank s 256 (edge (graph_of bs labels) count) (leads masks) masks_are (count_below 256 s) everything)
