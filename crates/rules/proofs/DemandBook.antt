-- The book has the locks and permits of the window. Assumes nothing.
use mathlib.Core.Path.{◌≡◌, refl, sym, ◌∙◌, ap, ap₂, fun_ext}
use mathlib.Core.Logic.{⊎_elim, ◌≢◌}
use mathlib.Core.Bool.{Bool, true, false, not, cond, ◌||◌, true≢false}
use Prim.Native.Nat.{ℕ}
use lib.Dec.{ltb, eqb}
use borrow.Author.Tests.{eqb-true, ne_eqb}
use Rattle.rules.specs.Base.{keep}
use Rattle.rules.specs.Sets.{Set, put_all}
use Rattle.rules.specs.Window.{Limits, PermitRecord, Window, with_value, with_held, with_line, with_permits, with_ties, is_ended, live, no_change, with_log}
use Rattle.rules.specs.Locks.{clash, permitted}
use Rattle.rules.specs.Ties.{group_of, end_set}
use Rattle.rules.specs.Sound.{permit_sound}
use Rattle.rules.specs.Effects.{released, permit_stays, permits_left, end_all, add_change, hand_over, withdraw}
use Rattle.rules.specs.Events.{Action, is_opening}
use Rattle.rules.specs.Lists.{Book, enter, strike}
use Rattle.rules.proofs.BaseLaws.{or_cases, and_right}
use Rattle.rules.proofs.DemandEnds.{how_ended, Ending, none, same_ending, commit_ending, abort_ending}
use Rattle.rules.proofs.DemandMoves.{shown_status, Calm, Move, opened, started, calm, locked, granted, handed, depended, committed, aborted, live_unended, live_not}
use Rattle.rules.proofs.ListLaws.{keep_same, keep_whole}
use Rattle.rules.proofs.PairLaws.{pair_permitted}
use Rattle.rules.proofs.SoundParts.{Sound, permit_parts, held_zero}

unfoldable pub book_of : Window → Book
book_of W = record { held = W.held; permits = W.permits }

-- an ended change holds nothing
ended-holds : (L : Limits) (W : Window) → Sound L W → (e c : ℕ) → is_ended (shown_status W c) ≡ true → W.held e c ≡ 0
ended-holds L W z e c h = held_zero W z.helds e c (λ q. live_not W c (and_right (ltb e W.entries) _ q) h)

nobody-shown : (W : Window) → is_ended (shown_status W 0) ≡ false
unfolding shown_status no_change is_ended
nobody-shown W = refl

-- a test of both parties of a permit depends on what it says of live changes and of 0
same_parties : (m : ℕ) (s a b : Set) → ((c : ℕ) → s c ≡ true → a c ≡ b c) → a 0 ≡ b 0 → (p : PermitRecord) → permit_sound m s p ≡ true
    → not (a p.giver || a p.taker) ≡ not (b p.giver || b p.taker)
same_parties m s a b f z p h = ap₂ (λ x y. not (x || y)) (f p.giver (permit_parts m s p h).0) (⊎_elim (λ q. let o = eqb-true p.taker 0 q in ap a o ∙ z ∙ ap b (sym o)) (f p.taker) (or_cases (eqb p.taker 0) (s p.taker) (permit_parts m s p h).1))

-- striking out the ones that a call ended
module _ (L : Limits) (W X : Window) (s : Set) (how : ℕ) (P : Ending W X s how) (z : Sound L W) (st : ℕ → ℕ) (shows : (c : ℕ) → st c ≡ shown_status X c) where
  told : (c : ℕ) → live W c ≡ true → is_ended (st c) ≡ s c
  told c l = ap is_ended (shows c) ∙ go (s c) refl
    where
      go : (b : Bool) → s c ≡ b → is_ended (shown_status X c) ≡ s c
      go true e = ap is_ended (P.ends c e).1 ∙ (how_ended P) ∙ sym e
      go false e = live_unended X c (P.on c e l) ∙ sym e

  untold : (b : Bool) → s 0 ≡ b → is_ended (st 0) ≡ s 0
  untold true e = told 0 (P.ends 0 e).0
  untold false e = ap is_ended (shows 0) ∙ nobody-shown X ∙ sym e

  struck_held : (e c : ℕ) → cond (is_ended (st c)) 0 (W.held e c) ≡ cond (s c) 0 (W.held e c)
  struck_held e c = go (s c) refl (is_ended (st c)) refl
    where
      go : (b : Bool) → s c ≡ b → (a : Bool) → is_ended (st c) ≡ a → cond a 0 (W.held e c) ≡ cond b 0 (W.held e c)
      go true p true q = refl
      go true p false q = absurd (true≢false (sym (how_ended P) ∙ ap is_ended (sym (P.ends c p).1) ∙ ap is_ended (sym (shows c)) ∙ q))
      go false p true q = sym (ended-holds L W z e c (P.fewer c p (ap is_ended (sym (shows c)) ∙ q)))
      go false p false q = refl

  struck_permits : keep (λ p. not (is_ended (st p.giver) || is_ended (st p.taker))) W.permits ≡ keep (λ p. not (s p.giver || s p.taker)) W.permits
  struck_permits = keep_same _ _ _ (same_parties W.entries (live W) (λ c. is_ended (st c)) s told (untold (s 0) refl)) W.permits z.permits

  strike-ended : strike st (book_of W) ≡ book_of (end_all how s W)
  unfolding strike released put_all permits_left permit_stays book_of end_all
  strike-ended = λ i. record { held = fun_ext (λ e. fun_ext (λ c. struck_held e c)) i; permits = struck_permits i }

-- where nobody has ended nothing changes
pub strike_same : (L : Limits) (X : Window) → Sound L X → (st : ℕ → ℕ) → ((c : ℕ) → st c ≡ shown_status X c) → strike st (book_of X) ≡ book_of X
unfolding book_of end_all released put_all permits_left permit_stays
strike_same L X z st shows = strike-ended L X X none 4 (same_ending L X z X refl refl (λ k l f t. t)) z st shows ∙ (λ i. record { held = X.held; permits = keep_whole X.permits i })

-- the book after a call
module _ (L : Limits) (W : Window) (z : Sound L W) where
  calm_book : (X : Window) → Calm W X → book_of W ≡ book_of X
  unfolding book_of
  calm_book X q = λ i. record { held = sym q.held i; permits = sym q.permits i }

  pub book-next : {d : Action} {n : ℕ} {X : Window} → Move W d n X → Sound L X → (st : ℕ → ℕ) → ((c : ℕ) → st c ≡ shown_status X c) → is_opening d ≡ false → strike st (enter d (book_of W)) ≡ book_of X
  unfolding book_of enter add_change with_held with_line with_permits with_ties hand_over is_opening end_all withdraw with_value with_log
  book-next (opened n j) y st sh o = absurd (true≢false o)
  book-next (started p) y st sh o = strike_same L (add_change W p) y st sh
  book-next (calm j X q) y st sh o = ap (strike st) (calm_book X q) ∙ strike_same L X y st sh
  book-next (locked c e m j h w q) y st sh o = ap (strike st) (λ i. record { held = fun_ext (λ x. fun_ext (λ d. sym (q x d))) i; permits = W.permits }) ∙ strike_same L _ y st sh
  book-next (granted g t e o j) y st sh w = strike_same L _ y st sh
  book-next (handed f t e j) y st sh o = strike_same L _ y st sh
  book-next (depended i l f j a b) y st sh o = strike_same L _ y st sh
  book-next (committed c j l b) y st sh o = strike-ended L W _ (group_of W c) 4 (commit_ending L W z c l b) z st sh
  book-next (aborted c j l) y st sh o = strike-ended L W _ (end_set W c) 5 (abort_ending L W z c l) z st sh

  pub clash-permitted : (e a b : ℕ) → a ≢ b → clash (W.held e a) (W.held e b) ≡ true → permitted W.permits a b e (W.held e b) || permitted W.permits b a e (W.held e a) ≡ true
  unfolding pair_permitted
  clash-permitted e a b n h = rw (ne_eqb a b n, h) at (z.locks e a b)
