-- What is queued at endpoints without a channel are the messages that are queued.
use Rattle.std.proofs.Common.{◌≡◌, ℕ, ◌+◌, Bool, cond, List, [], ◌∷◌, length, map, filter, flat_map, Option, Some, None, refl, sym, ap, ◌∙◌, arith, length-append, sum_by}
use Rattle.std.specs.Prelude.{is_none}
use Rattle.std.specs.List.{AllByRecursion}
use Rattle.std.proofs.lemmas.List.{length-map}
use Rattle.std.proofs.lemmas.List.Sums.{sum_by-cons}
use Rattle.board_model.specs.declared.scenario.Scenario.{Scenario}
use Rattle.board_model.specs.Scenario.{neighbours}
use Rattle.board_model.specs.LinkedBoard.{IsLinkedBoard}
use Rattle.board_model.specs.State.{Item, ChannelEnd, Endpoint, DomainState}
use Rattle.board_model.specs.Run.{left_by}
use Rattle.board_model.specs.Board.{DomainJournal, IsBoardRun}
use Rattle.board_model.specs.JournalDeeds.{deeds_of, left_in, opened}
use Rattle.board_model.specs.Messages.{message_of, is_message_item, queued_at, queued_in, messages_queued}
use Rattle.board_model.specs.Unnamed.{unnamed_end, unnamed_item}
use Rattle.board_model.proofs.HonestBoard.{OnBoard, each_on_board}
use Rattle.board_model.proofs.MessageAlls.{all-weaken}
use Rattle.board_model.proofs.MessageOnce.{total, total-each, length-joined}
use Rattle.board_model.proofs.OrderLaws.{stands_end, stands_open}
use Rattle.board_model.proofs.OrderSerials.{all_succeed}
use Rattle.board_model.proofs.OrderSound.{Bound, CameOn, IsBound, IsMessage, Sound, came-no-message}
use Rattle.board_model.specs.Queues.{messages_at}

-- how many messages are queued in a state
abbrev pub queued_apart : DomainState → ℕ
queued_apart s = sum_by messages_at s.endpoints

all_messages : (q : List Item) → AllByRecursion IsMessage q → length (filter is_message_item q) ≡ length q
all_messages [] all = refl
all_messages (i ∷ is) all =
    let kept : length (filter is_message_item (i ∷ is)) ≡ length (i ∷ filter is_message_item is) = ap (λ (b : Bool). length (cond b (i ∷ filter is_message_item is) (filter is_message_item is))) all.0 in
    omega (arith, kept, all_messages is all.1)

no_messages : (c : ChannelEnd) (q : List Item) → AllByRecursion (CameOn c) q → length (filter is_message_item q) ≡ 0
no_messages c [] all = refl
no_messages c (i ∷ is) all = ap (λ (b : Bool). length (cond b (i ∷ filter is_message_item is) (filter is_message_item is))) (came-no-message c i all.0) ∙ no_messages c is all.1

queued_one : (d : ℕ) (e : Endpoint) → IsBound e → messages_at (unnamed_end e) ≡ length (queued_at d e)
queued_one d e bound = go e.channel bound
  where
    go : (c : Option ChannelEnd) → Bound e.queue c → cond (is_none c) (length (map unnamed_item e.queue)) 0 ≡ length (queued_at d e)
    go None bound = length-map e.queue unnamed_item ∙ sym (length-map (filter is_message_item e.queue) (message_of d e.address) ∙ all_messages e.queue bound)
    go (Some c) bound = sym (length-map (filter is_message_item e.queue) (message_of d e.address) ∙ no_messages c e.queue bound.1)

queued_each : (d : ℕ) (es : List Endpoint) → AllByRecursion IsBound es → sum_by messages_at (map unnamed_end es) ≡ length (flat_map (queued_at d) es)
queued_each d [] all = refl
queued_each d (e ∷ es) all =
    omega (arith, sum_by-cons messages_at (unnamed_end e) (map unnamed_end es), queued_one d e all.0, queued_each d es all.1, length-append (queued_at d e) (flat_map (queued_at d) es))

module _ (s : Scenario) (js : List DomainJournal) (board : IsLinkedBoard s) (run : IsBoardRun s js) where
  sound_left : (j : DomainJournal) → OnBoard s js board run j → Sound (left_in s j)
  sound_left j on =
      let ds = deeds_of s j in
      let many : ℕ = all_succeed ds + 1 in
      (stands_end (opened s j) many [] ds (stands_open many j.line.domain j.line.nodes (neighbours s j.line) on.deeds.few) on.told.run.may on.told.run.named (omega arith)).1.moment.sound

  journal_queued : (j : DomainJournal) → OnBoard s js board run j → queued_apart (left_by s j.line j.entries).state ≡ length (queued_in s j)
  journal_queued j on = ap queued_apart on.told.state ∙ queued_each j.line.domain (left_in s j).endpoints (sound_left j on).bound

  pub messages-apart : total (λ j. queued_apart (left_by s j.line j.entries).state) js ≡ length (messages_queued s js)
  messages-apart =
      total-each (λ j. queued_apart (left_by s j.line j.entries).state) (λ j. length (queued_in s j)) js (all-weaken (OnBoard s js board run) (λ j. queued_apart (left_by s j.line j.entries).state ≡ length (queued_in s j)) journal_queued js (each_on_board s js board run))
      ∙ sym (length-joined (queued_in s) js)
