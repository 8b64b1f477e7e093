-- The sections cut out of a window's bytes. Assumes nothing.
use mathlib.Core.Path.{◌≡◌, sym, ◌∙◌, ap}
use mathlib.Core.List.{List, ◌++◌}
use Prim.Native.Nat.{ℕ, ◌+◌}
use native.Mathlib.Omega.{arith}
use lib.ListN.{length, take, drop, take-append-drop, length-drop}
use lib.Seq.{drop-drop, take_all}
use Rattle.rules.specs.Window.{Window}
use Rattle.layout.specs.Codec.{head_at, head_size, values_at, values_size, changes_at, changes_size, line_at, line_size, locks_at, locks_size, permits_at, permits_size, ties_at, ties_size, log_at, log_size, window_size, head_section, value_section, change_section, line_section, lock_section, permit_section, tie_section, log_section, lay}
use Rattle.layout.proofs.SectionLaws.{section, sections, lay_sections, lay_out_part}

module _ (fs : List ℕ) (W : Window) where
  pub head_part : take head_size (drop head_at (lay fs W)) ≡ head_section fs
  unfolding head_section sections section
  head_part = rw (lay_sections fs W) (lay_out_part (sections fs W) 0)

  pub values-part : take values_size (drop values_at (lay fs W)) ≡ value_section W.value
  unfolding value_section sections section
  values-part = rw (lay_sections fs W) (lay_out_part (sections fs W) 1)

  pub changes-part : take changes_size (drop changes_at (lay fs W)) ≡ change_section W.status W.parent
  unfolding change_section sections section
  changes-part = rw (lay_sections fs W) (lay_out_part (sections fs W) 2)

  pub line-part : take line_size (drop line_at (lay fs W)) ≡ line_section W.line
  unfolding line_section sections section
  line-part = rw (lay_sections fs W) (lay_out_part (sections fs W) 3)

  pub locks-part : take locks_size (drop locks_at (lay fs W)) ≡ lock_section W.held
  unfolding lock_section sections section
  locks-part = rw (lay_sections fs W) (lay_out_part (sections fs W) 4)

  pub permits-part : take permits_size (drop permits_at (lay fs W)) ≡ permit_section W.permits
  unfolding permit_section sections section
  permits-part = rw (lay_sections fs W) (lay_out_part (sections fs W) 5)

  pub ties_part : take ties_size (drop ties_at (lay fs W)) ≡ tie_section W.ties
  unfolding tie_section sections section
  ties_part = rw (lay_sections fs W) (lay_out_part (sections fs W) 6)

  pub log-part : take log_size (drop log_at (lay fs W)) ≡ log_section W.log
  unfolding log_section sections section
  log-part = rw (lay_sections fs W) (lay_out_part (sections fs W) 7)

-- bytes of a window's size are their eight parts, one after the other
module _ (bs : List ℕ) (size : length bs ≡ window_size) where
  cut : (n m : ℕ) → drop n bs ≡ take m (drop n bs) ++ drop (n + m) bs
  cut n m = sym (take-append-drop m (drop n bs)) ∙ ap (λ r. take m (drop n bs) ++ r) (drop-drop m n bs)

  pub eight_parts : bs ≡ take head_size (drop head_at bs) ++ (take values_size (drop values_at bs) ++ (take changes_size (drop changes_at bs) ++ (take line_size (drop line_at bs)
      ++ (take locks_size (drop locks_at bs) ++ (take permits_size (drop permits_at bs) ++ (take ties_size (drop ties_at bs) ++ take log_size (drop log_at bs)))))))
  eight_parts = cut 0 head_size ∙ next head_at head_size (cut values_at values_size ∙ next values_at values_size (cut changes_at changes_size ∙ next changes_at changes_size (cut line_at line_size
      ∙ next line_at line_size (cut locks_at locks_size ∙ next locks_at locks_size (cut permits_at permits_size ∙ next permits_at permits_size (cut ties_at ties_size
      ∙ next ties_at ties_size (sym (take_all log_size (drop log_at bs) (omega (arith, length-drop log_at bs, size))))))))))
    where
      next : (n m : ℕ) {x y : List ℕ} → x ≡ y → take m (drop n bs) ++ x ≡ take m (drop n bs) ++ y
      next n m e = ap (λ r. take m (drop n bs) ++ r) e
