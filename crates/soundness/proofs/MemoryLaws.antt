-- Memory that begins with a window. Assumes nothing.
use mathlib.Core.Path.{◌≡◌}
use mathlib.Core.List.{List}
use Prim.Native.Nat.{ℕ, ◌≤◌, ◌<◌}
use lib.ListN.{length, take}
use mathlib.Core.Bool.{false}
use borrow.Author.Tests.{le-leb, lt-leb}
use Rattle.layout.specs.Codec.{window_size}
use Rattle.layout.specs.Memory.{sound_bytes, long, sound_memory}

-- shorter than a window
pub memory_short : (mem : List ℕ) → length mem < window_size → false ≡ sound_memory mem
unfolding sound_memory long
memory_short mem h = rw (lt-leb window_size (length mem) h)

-- not shorter
pub memory-long : (mem : List ℕ) → window_size ≤ length mem → sound_bytes (take window_size mem) ≡ sound_memory mem
unfolding sound_memory long
memory-long mem h = rw (le-leb window_size (length mem) h)

-- both, for tactics
pub ruleset memory_laws = (memory_short, memory-long)
