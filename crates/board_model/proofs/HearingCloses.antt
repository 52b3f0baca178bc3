-- The number that a receiver's close answers is that of the items of its channel which it drops.
use Rattle.std.proofs.Common.{◌≡◌, ℕ, ◌+◌, ◌-◌, ◌≤◌, ◌<◌, ◌^◌, true, false, List, [], ◌∷◌, ◌++◌, map, length, Option, None, Some, refl, sym, ap, ◌∙◌, subst, arith}
use Rattle.mc_base.specs.declared.name.Local.{Local}
use Rattle.mc_base.specs.declared.channel.Side.TheVariants.{Receiver}
use Rattle.mc_base.specs.declared.refusal.Refusal.{Refusal}
use Rattle.mc_base.specs.declared.refusal.Refusal.TheVariants.{NotConnected}
use Rattle.board_model.specs.Answer.{local, channel_at, holds_at_end, end_holds, holds, words_of, refusal, answer_by, success}
use Rattle.board_model.specs.CallChanges.{at_live}
use Rattle.board_model.specs.ChannelEnds.{closes}
use Rattle.board_model.specs.Channels.{contents_of, dropped_at, CloseTells}
use Rattle.board_model.specs.Deeds.{Deed, calls, MayDo, AllMayDo, after_deeds, EachDeed}
use Rattle.board_model.specs.DomainCall.{close_at}
use Rattle.board_model.specs.Journal.{tells}
use Rattle.board_model.specs.Scenario.{Neighbour}
use Rattle.board_model.specs.State.{Item, ChannelEnd, Endpoint, DomainState, opening, is_at, live_at, queue_at, queue_in, channel_in}
use Rattle.board_model.proofs.HearingItems.{all_contents}
use Rattle.board_model.proofs.HearingLaw.{deed_keeps, opening_sound}
use Rattle.board_model.proofs.MessageLists.{get-position}
use Rattle.board_model.proofs.OrderSerials.{Serials, succeeds, all_succeed}
use Rattle.board_model.proofs.OrderSound.{Sound, Bound, sound_bound}
use Rattle.board_model.proofs.OrderLookups.{none_holds}
use Rattle.board_model.proofs.DeedJoins.{after-join}

length_contents : (q : List Item) → length (map (λ i. i.content) q) ≡ length q
length_contents [] = refl
length_contents (i ∷ q) = omega (arith, length_contents q)

-- ---- one close

module _ (s : DomainState) (sound : Sound s) (node port count : ℕ) where
  abbrev at : Local
  at = local node port

  abbrev deed : Deed
  deed = calls node (close_at port Receiver) (tells count)

  -- all that is queued at the end is of its channel
  dropped_length : (x : Option Endpoint) → live_at s at ≡ x → holds_at_end (Some (closes Receiver)) (channel_in x) NotConnected ≡ false → length (queue_in x) ≡ length (dropped_at (channel_in x) s deed)
  dropped_length None is connected = absurd cc
  dropped_length (Some e) is connected = go e.channel refl connected
    where
      go : (y : Option ChannelEnd) → e.channel ≡ y → end_holds (closes Receiver) y NotConnected ≡ false → length e.queue ≡ length (dropped_at y s deed)
      go None has h = absurd cc
      go (Some c) has h =
          let bound : Bound e.queue (Some c) = subst (Bound e.queue) has (sound_bound s sound (is_at at) e is) in
          sym (ap (λ x. length (at_live x (λ f. contents_of c.owner c.number f.queue))) is
          ∙ (ap length (all_contents c.owner c.number true e.queue bound.1) ∙ length_contents e.queue))

  close_tells : MayDo s deed → count ≡ length (dropped_at (channel_at s at) s deed)
  close_tells may = go (refusal s node (close_at port Receiver)) refl may
    where
      same : tells count ≡ tells (length (queue_at s at)) → count ≡ length (queue_at s at)
      same e = cc

      go : (r : Option Refusal) → refusal s node (close_at port Receiver) ≡ r → tells count ≡ answer_by r (success s node (close_at port Receiver)) → count ≡ length (dropped_at (channel_at s at) s deed)
      go (Some w) h is = absurd cc
      go None h is =
          let words = none_holds (holds s node (close_at port Receiver)) (words_of (close_at port Receiver)) h in
          same is ∙ (ap (λ x. length (queue_in x)) (get-position (is_at at) s.endpoints) ∙ dropped_length (live_at s at) refl words.1.0)

-- ---- along a run

deed_tells : (start : DomainState) (before : List Deed) → Sound (after_deeds start before) → (d : Deed) → MayDo (after_deeds start before) d → CloseTells start before d
deed_tells start before sound (calls node (close_at port Receiver) (tells count)) may = close_tells (after_deeds start before) sound node port count may
deed_tells start before sound other may = tt

closes_tell : (start : DomainState) (room : ℕ) (before ds : List Deed) → Sound (after_deeds start before) → Serials room (after_deeds start before) → AllMayDo (after_deeds start before) ds → all_succeed ds ≤ room → EachDeed (CloseTells start) before ds
closes_tell start room before [] sound serials may few = tt
closes_tell start room before (d ∷ ds) sound serials may few =
    let keeps = deed_keeps 0 0 room (after_deeds start before) sound serials d may.0 (omega arith) in
    let next = sym (after-join start before (d ∷ [])) in (
      deed_tells start before sound d may.0,
      closes_tell start (room - succeeds d) (before ++ d ∷ []) ds (subst Sound next keeps.sound) (subst (Serials (room - succeeds d)) next keeps.serials) (subst (λ t. AllMayDo t ds) next may.1) (omega arith),
    )

pub run_closes : (number nodes : ℕ) (neighbours : List Neighbour) (ds : List Deed) → AllMayDo (opening number nodes neighbours) ds → all_succeed ds + 1 < 2 ^ 64 → EachDeed (CloseTells (opening number nodes neighbours)) [] ds
run_closes number nodes neighbours ds may few =
    let serials : Serials (all_succeed ds) (opening number nodes neighbours) = record { differ = tt; below = tt; small = omega arith } in
    closes_tell (opening number nodes neighbours) (all_succeed ds) [] ds (opening_sound number nodes neighbours) serials may (omega arith)
