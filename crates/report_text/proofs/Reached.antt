-- What is reached step by step in a text.
use Rattle.std.proofs.Common.{◌≡◌, ℕ, ◌+◌, Bool, true, false, cond, List, [], ◌∷◌, refl, ap, arith}
use Rattle.std.specs.Prelude.{Result, Ok, Err}
use Rattle.report_text.specs.declared.lines.Unread.{Unread}
use Rattle.report_text.specs.ReportLines.{has_form, channel_form}
use Rattle.report_text.specs.ScenarioPart.{Rest, rest}
use Rattle.report_text.specs.TextPass.{line_by, channels_from}
use Rattle.report_text.specs.Texts.{IsBehind, IsPast, IsRead, IsReached}

pub behind_behind : (u v w : Unread) → IsBehind u v → IsBehind v w → IsBehind u w
behind_behind u v w one two = record {
  few = omega (arith, one.few, two.few);
  shorter = omega (arith, one.shorter, two.shorter);
  fits = omega (arith, one.fits, two.fits);
}

pub behind_past : (u v w : Unread) → IsBehind u v → IsPast v w → IsBehind u w
behind_past u v w one two = behind_behind u v w one two.behind

pub reached_behind : (u v : Unread) (r : Result Unread ℕ) → IsBehind u v → IsReached v r → IsReached u r
reached_behind u v (Ok w) one two = behind_behind u v w one two
reached_behind u v (Err n) one two = tt

pub reached_past : (u v : Unread) (r : Result Unread ℕ) → IsPast u v → IsReached v r → IsReached u r
reached_past u v r one two = reached_behind u v r one.behind two

pub reached_read : (u : Unread) (r : Result Unread ℕ) → IsRead u r → IsReached u r
reached_read u (Ok v) one = one.behind
reached_read u (Err n) one = tt

-- ---- lines of channels

pub channels_more : (n : ℕ) (ls : List (List ℕ)) (r : Rest) → line_by channel_form n ls ≡ Ok r → channels_from n ls ≡ channels_from r.number r.lines
channels_more n [] r e = absurd cc
channels_more n (l ∷ ls) r e = go (has_form channel_form l) e
  where
    go : (t : Bool) → cond t (Ok (rest (n + 1) ls)) (Err n) ≡ Ok r → cond t (channels_from (n + 1) ls) (rest n (l ∷ ls)) ≡ channels_from r.number r.lines
    go true e = let same : rest (n + 1) ls ≡ r = cc in ap (λ (s : Rest). channels_from s.number s.lines) same
    go false e = absurd cc

pub channels_end : (n m : ℕ) (ls : List (List ℕ)) → line_by channel_form n ls ≡ Err m → channels_from n ls ≡ rest n ls
channels_end n m [] e = refl
channels_end n m (l ∷ ls) e = go (has_form channel_form l) e
  where
    go : (t : Bool) → cond t (Ok (rest (n + 1) ls)) (Err n) ≡ Err m → cond t (channels_from (n + 1) ls) (rest n (l ∷ ls)) ≡ rest n (l ∷ ls)
    go true e = absurd cc
    go false e = refl
