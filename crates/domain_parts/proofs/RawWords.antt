-- The words of the call that puts a frame as it is, by their conditions.
use Rattle.std.proofs.Common.{◌≡◌, ◌<◌, ℕ, Bool, true, false, cond, List, [], ◌∷◌, Option, Some, None, ap, ◌∙◌}
use Rattle.std.specs.Prelude.{is_none, is_some, nat_lt, not}
use Rattle.mc_base.specs.Fault.{fault}
use Rattle.mc_base.specs.declared.refusal.Refusal.{Refusal}
use Rattle.mc_base.specs.declared.refusal.Refusal.TheVariants.{LinkInvalid, NoBuffer, RawSound}
use Rattle.board_model.specs.Answer.{lacks_buffers, refusal}
use Rattle.board_model.specs.DomainCall.{raw_to}
use Rattle.board_model.specs.State.{DomainState, free_to, place_of_peer}
use Rattle.domain_parts.proofs.Channels.{lacks-none}

abbrev raw_by : Bool → Bool → Bool → Option Refusal
raw_by near sound full = cond (not near) (Some LinkInvalid) (cond sound (Some RawSound) (cond full (Some NoBuffer) None))

module _ (s : DomainState) (node to : ℕ) (bytes : List ℕ) where
  abbrev full : Bool
  full = lacks_buffers s ((to, bytes) ∷ [])

  -- no lane leads there
  pub raw-far : is_some (place_of_peer s to) ≡ false → refusal s node (raw_to to bytes) ≡ Some LinkInvalid
  raw-far far = ap (λ (b : Bool). raw_by b (is_none (fault bytes)) full) far

  module _ (near : is_some (place_of_peer s to) ≡ true) where
    -- the frame has no fault
    pub raw-sound : is_none (fault bytes) ≡ true → refusal s node (raw_to to bytes) ≡ Some RawSound
    raw-sound sound = ap (λ (b : Bool). raw_by b (is_none (fault bytes)) full) near ∙ ap (λ (b : Bool). raw_by true b full) sound

    module _ (unsound : is_none (fault bytes) ≡ false) where
      by_room : refusal s node (raw_to to bytes) ≡ raw_by true false full
      by_room = ap (λ (b : Bool). raw_by b (is_none (fault bytes)) full) near ∙ ap (λ (b : Bool). raw_by true b full) unsound

      -- no buffer of the lane is free
      pub raw-full : free_to s to ≡ 0 → refusal s node (raw_to to bytes) ≡ Some NoBuffer
      raw-full none = by_room ∙ ap (λ (n : ℕ). raw_by true false (nat_lt n 1)) none

      -- one is
      pub raw-done : 0 < free_to s to → refusal s node (raw_to to bytes) ≡ None
      raw-done free = by_room ∙ ap (λ (b : Bool). raw_by true false b) (lacks-none s (to, bytes) free)
