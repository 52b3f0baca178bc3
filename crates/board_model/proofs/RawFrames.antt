-- A raw frame has a fault, so it says nothing: no message, no name, and no letter of a channel.
use Rattle.board_model.specs.Parts.{coming}
use Rattle.std.proofs.Common.{◌≡◌, ℕ, Bool, true, false, cond, List, [], ◌∷◌, ◌++◌, Option, Some, None, refl, ap, ◌∙◌}
use Rattle.std.specs.Prelude.{is_none, ◌==◌}
use Rattle.std.specs.List.{AllByRecursion, flat_map}
use Rattle.std.proofs.lemmas.List.{append-nil}
use Rattle.mc_base.specs.Fault.{fault}
use Rattle.mc_base.specs.Reading.{is_faulty, reading, reading_by}
use Rattle.mc_base.specs.declared.fault.Fault.{Fault}
use Rattle.board_model.specs.DomainCall.{DomainCall, raw_to}
use Rattle.board_model.specs.State.{DomainState}
use Rattle.board_model.specs.Answer.{holds, words_of, puts_of, success_posts, success_puts}
use Rattle.board_model.proofs.ChannelWords.{sent_by, letters}
use Rattle.board_model.proofs.DeedRuns.{frames_to}

-- it is read as faulty
pub raw_faulty : (frame : List ℕ) → is_none (fault frame) ≡ false → (w : Fault) × (reading frame ≡ is_faulty w)
unfolding reading
raw_faulty frame unsound = go (fault frame) unsound
  where
    go : (o : Option Fault) → is_none o ≡ false → (w : Fault) × (reading_by o frame ≡ is_faulty w)
    go (Some w) it = (w, refl)
    go None it = absurd cc

-- it has no letter of a channel
pub raw_letters : (n p to : ℕ) (bytes : List ℕ) → is_none (fault bytes) ≡ false → letters n (frames_to p ((to, bytes) ∷ [])) ≡ []
raw_letters n p to bytes unsound = go (to == p)
  where
    go : (b : Bool) → letters n (cond b (bytes ∷ []) [] ++ []) ≡ []
    go true = append-nil (sent_by n (coming None (reading bytes)).reading) ∙ ap (λ r. sent_by n (coming None r).reading) (raw_faulty bytes unsound).1
    go false = refl

-- so the letters of what a call puts are those that it posts
pub letters_put : (n p : ℕ) (s : DomainState) (node : ℕ) (call : DomainCall) → AllByRecursion (λ w. holds s node call w ≡ false) (words_of call) → letters n (frames_to p (success_puts s node call)) ≡ letters n (frames_to p (flat_map puts_of (success_posts s node call)))
letters_put n p s node (raw_to to bytes) no_word = raw_letters n p to bytes no_word.1.0
letters_put n p s node other no_word = refl
