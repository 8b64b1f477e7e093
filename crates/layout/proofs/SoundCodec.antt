-- A sound window is the one that its bytes give back. Assumes nothing.
use mathlib.Core.Path.{◌≡◌, refl}
use mathlib.Core.List.{List}
use mathlib.Core.Bool.{and-false}
use Prim.Native.Nat.{ℕ, ◌≤◌}
use lib.Dec.{ltb}
use lib.ListN.{get_or, length}
use borrow.Author.Tests.{le-ltb, ltb-true}
use Rattle.rules.specs.Window.{limits, Window, live}
use Rattle.rules.specs.Sound.{record_sound}
use Rattle.rules.proofs.BaseLaws.{within_of}
use Rattle.rules.proofs.ListLaws.{all_weaken, all_get_d}
use Rattle.rules.proofs.SoundParts.{Sound, Blank, sound_blank, value_most, record_parts, held_most}
use Rattle.layout.specs.Codec.{decode, encode, no_record, read_value, read_status, read_parent, read_held}
use Rattle.layout.proofs.CodecLaws.{Canonical, decode-encode}

-- how many entries and changes a sound window has
module _ (W : Window) (k : Sound limits W) where
  pub entries_most : W.entries ≤ 256
  unfolding limits
  entries_most = within_of W.entries 256 k.entries

  pub given_most : W.given ≤ 255
  unfolding limits
  given_most = within_of W.given 255 k.changes

-- a sound window has what bytes can say
pub sound_canonical : (W : Window) → Sound limits W → Canonical W
unfolding limits
sound_canonical W k = record {
  entries_most = entries_most W k;
  given_most = given_most W k;
  blank = sound_blank limits W k;
  value_most = λ e. ltb-true (W.value e) 4294967296 (value_most limits W k e);
  held_most = held_most W k.helds;
  log_most = within_of (length W.log) 2048 k.room_log;
  before_most = λ j. ltb-true (get_or W.log j no_record).before 4294967296 (all_get_d (λ r. ltb r.before 4294967296) W.log j no_record (all_weaken (record_sound W.entries (live W) W.held) _ (λ r h. (record_parts W.entries (live W) W.held r h).2) W.log k.records) refl);
  permits_most = within_of (length W.permits) 1024 k.room_permits;
  ties_most = within_of (length W.ties) 512 k.room_ties;
  line_most = within_of (length W.line) 255 k.room_line;
}

-- it is what its bytes say
pub sound_again : (W : Window) → Sound limits W → decode (encode W) ≡ W
sound_again W k = decode-encode W (sound_canonical W k)

-- bytes hold nothing beyond the largest figures
pub decode_blank : (bs : List ℕ) → Blank limits (decode bs)
unfolding limits decode read_value read_status read_parent read_held
decode_blank bs = record {
  value = λ e h. rw (le-ltb e 256 h);
  status = λ c h. rw (le-ltb c 256 h);
  parent = λ c h. rw (le-ltb c 256 h);
  held-entry = λ e c h. rw (le-ltb e 256 h);
  held-change = λ e c h. rw (le-ltb c 256 h, and-false);
}
