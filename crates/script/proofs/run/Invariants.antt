-- What the loop of `script::run` keeps: at most 65 bytes of a line, nothing that waits, and a place that no run uses up.
use Prim.Native.Nat.{◌*◌, ◌≤◌}
use mathlib.Core.Path.{◌≡◌}
use lib.ListN.{length}
use Rattle.listing.specs.Stands.{place_of}
use Rattle.script.proofs.run.Given as goal

abbrev pub invariant-loop-turn : goal.invariant-loop-turn
invariant-loop-turn l = record { line-long : length l.line ≡ 65; held : l.stand.held ≤ 65; nothing_waits : l.stand.used ≡ 0; place : place_of l.stand.stage ≤ 1024 * l._turn }
