-- The record at a place of a section, read from the section's bytes; a bound on the ends of ties; a table in its section. Words of inner contracts. Assumes nothing.
use Rattle.std.specs.Prelude.{◌≡◌, Bool, ◌&&◌, List, ℕ, ltb, get_or, length}
use Rattle.rules.specs.Base.{all}
use Rattle.rules.specs.Window.{PermitRecord, TieRecord, LineRecord}
use Rattle.layout.specs.Codec.{permit_in, tie_in, waiter_in}

-- a permit, a tie and a place in line at a place of their section
unfoldable pub permit_at : List ℕ → ℕ → PermitRecord
permit_at bs j = permit_in (λ i. get_or bs i 0) j

unfoldable pub tie_at : List ℕ → ℕ → TieRecord
tie_at bs j = tie_in (λ i. get_or bs i 0) j

unfoldable pub waiter_at : List ℕ → ℕ → LineRecord
waiter_at bs j = waiter_in (λ i. get_or bs i 0) j

-- a tie by its parts
abbrev pub tie_of : ℕ → ℕ → ℕ → TieRecord
tie_of kind leader follower = record { kind = kind; leader = leader; follower = follower }

-- both ends of each tie are below n
unfoldable pub ends_below : ℕ → List TieRecord → Bool
ends_below n ts = all (λ t. ltb t.leader n && ltb t.follower n) ts

-- a table of r records, as a section's bytes
pub record Tabled {A : Type 0} (section : List A → List ℕ) (l : List A) (r : ℕ) (after : List ℕ) : Type 0 where
  -- how many there are
  pub count : r ≡ length l
  -- every byte of the section
  pub bytes : after ≡ section l
