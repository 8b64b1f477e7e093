-- A record read, and one step of a withdrawal, which goes over the log from its oldest record on. Assumes nothing.
use Rattle.std.specs.Prelude.{◌≡◌, Bool, not, cond, ◌||◌, List, [], ◌∷◌, ℕ, ◌<◌, ◌^◌}
use Rattle.rules.specs.Sets.{Set}
use Rattle.rules.specs.Window.{LogRecord}
use Rattle.rules.specs.Effects.{owned_on, undo}
use Rattle.layout.specs.Codec.{value_section}
use Rattle.change_log.specs.declared.Record.{Record}

-- a record as it was read; its value before, where that fits
pub record IsRecord (r : Record) (q : LogRecord) : Type 0 where
  pub owner : r.owner ≡ q.owner
  pub entry : r.entry ≡ q.entry
  pub before : q.before < 2 ^ 32 → r.before ≡ q.before

-- a record, the entries undone by those before it and the values then; whether it stays in the log, and the entries and values with it
pub record Undone (ended : Set) (r : LogRecord) (undone : Set) (values : List ℕ) (stays : Bool) (undone' : Set) (values' : List ℕ) : Type 0 where
  pub test : stays ≡ not (undone r.entry || ended r.owner)
  pub entries : (e : ℕ) → undone' e ≡ undone e || owned_on ended e r
  pub stored : (v : ℕ → ℕ) → r.before < 2 ^ 32 → values ≡ value_section v → values' ≡ value_section (cond (undone r.entry) v (undo ended (r ∷ []) v))
