-- What a deed tells of items does not hang on which of two answers with its text a call is told with.
use Rattle.std.proofs.Common.{◌≡◌, ℕ, ◌⊎◌, inl, inr, Bool, true, false, cond, List, [], Option, Some, None, refl, sym, ap, ◌∙◌, arith}
use Rattle.std.specs.Prelude.{◌==◌}
use Rattle.mc_base.specs.declared.refusal.Refusal.{Refusal}
use Rattle.mc_base.specs.declared.channel.Side.TheVariants.{Sender, Receiver}
use Rattle.board_model.specs.Choice.{best, oldest}
use Rattle.board_model.specs.State.{Item, DomainState, queue_at}
use Rattle.board_model.specs.DomainCall.{DomainCall, create_at, delete_at, lookup_of, send_from, receive_at, request_at, available_at, connect_from, open_at, packet_from, lend_at, packet_request_at, release_of, scalar_from, scalar_at, close_at, test_of, wait_for, cancel_of, raw_to, turn_alone}
use Rattle.board_model.specs.Deeds.{calls}
use Rattle.board_model.specs.Journal.{PlainAnswer, refuses, agrees, tells, connects, gives, completes}
use Rattle.board_model.specs.Grammar.{spaced}
use Rattle.board_model.specs.Report.{answer_words}
use Rattle.board_model.specs.Answer.{local, answer, answer_by, refusal, success, given, lent_whole}
use Rattle.board_model.specs.Takings.{answered_by}
use Rattle.board_model.specs.Drops.{dropped_by}
use Rattle.board_model.specs.Channels.{lost_by}
use Rattle.board_model.specs.Channels as channels
use Rattle.board_model.specs.Messages as messages
use Rattle.mc_journal.specs.EntryText.{FitsAnswer}
use Rattle.mc_journal.specs.Readers.{answer_in}
use Rattle.report_text.proofs.KindsTold.{kind_of, same-kind, gives-read}

abbrev is_gives : PlainAnswer → Bool
is_gives (gives size bytes) = true
is_gives other = false

-- calls that answer with what they took
abbrev takes_item : DomainCall → Bool
takes_item (receive_at port max) = true
takes_item (lend_at port) = true
takes_item other = false

pub record Alike (call : DomainCall) (a b : PlainAnswer) : Type 0 where
  pub kind : kind_of a ≡ kind_of b
  pub given : takes_item call ≡ true → is_gives a ≡ is_gives b

by-kind : {A : Type 0} (k : ℕ) (xs : List A) (f : PlainAnswer → List A) (a b : PlainAnswer) → ((x : PlainAnswer) → f x ≡ cond (kind_of x == k) xs []) → kind_of a ≡ kind_of b → f a ≡ f b
by-kind k xs f a b is same = is a ∙ ap (λ n. cond (n == k) xs []) same ∙ sym (is b)

by-gives : {A : Type 0} (xs : List A) (f : PlainAnswer → List A) (a b : PlainAnswer) → ((x : PlainAnswer) → f x ≡ cond (is_gives x) xs []) → is_gives a ≡ is_gives b → f a ≡ f b
by-gives xs f a b is same = is a ∙ ap (λ t. cond t xs []) same ∙ sym (is b)

pub channel-accepted : (number : ℕ) (s : DomainState) (node : ℕ) (call : DomainCall) (a b : PlainAnswer) → Alike call a b → channels.accepted_by number s (calls node call a) ≡ channels.accepted_by number s (calls node call b)
channel-accepted number s node (create_at port) a b same = refl
channel-accepted number s node (delete_at port) a b same = refl
channel-accepted number s node (lookup_of name) a b same = refl
channel-accepted number s node (send_from port to priority bytes) a b same = refl
channel-accepted number s node (receive_at port max) a b same = refl
channel-accepted number s node (request_at port max) a b same = refl
channel-accepted number s node (available_at port) a b same = refl
channel-accepted number s node (connect_from port to kind) a b same = refl
channel-accepted number s node (packet_from port bytes) a b same = by-kind 1 (channels.accepted_by number s (calls node (packet_from port bytes) agrees)) (λ x. channels.accepted_by number s (calls node (packet_from port bytes) x)) a b each same.kind
  where
    each : (x : PlainAnswer) → channels.accepted_by number s (calls node (packet_from port bytes) x) ≡ cond (kind_of x == 1) (channels.accepted_by number s (calls node (packet_from port bytes) agrees)) []
    each (refuses word) = refl
    each agrees = refl
    each (tells n) = refl
    each (connects r c) = refl
    each (gives size bytes') = refl
    each (completes place result) = refl
channel-accepted number s node (lend_at port) a b same = refl
channel-accepted number s node (packet_request_at port) a b same = refl
channel-accepted number s node (release_of place) a b same = refl
channel-accepted number s node (scalar_from port bits value) a b same = by-kind 1 (channels.accepted_by number s (calls node (scalar_from port bits value) agrees)) (λ x. channels.accepted_by number s (calls node (scalar_from port bits value) x)) a b each same.kind
  where
    each : (x : PlainAnswer) → channels.accepted_by number s (calls node (scalar_from port bits value) x) ≡ cond (kind_of x == 1) (channels.accepted_by number s (calls node (scalar_from port bits value) agrees)) []
    each (refuses word) = refl
    each agrees = refl
    each (tells n) = refl
    each (connects r c) = refl
    each (gives size bytes') = refl
    each (completes place result) = refl
channel-accepted number s node (scalar_at port bits) a b same = refl
channel-accepted number s node (test_of request) a b same = refl
channel-accepted number s node (wait_for requests says_place) a b same = refl
channel-accepted number s node (cancel_of request) a b same = refl
channel-accepted number s node (raw_to to bytes) a b same = refl
channel-accepted number s node turn_alone a b same = refl
channel-accepted number s node (open_at port side kind) a b same = refl
channel-accepted number s node (close_at port Sender) a b same = refl
channel-accepted number s node (close_at port Receiver) a b same = refl

pub message-accepted : (d : ℕ) (s : DomainState) (node : ℕ) (call : DomainCall) (a b : PlainAnswer) → Alike call a b → messages.accepted_by d s (calls node call a) ≡ messages.accepted_by d s (calls node call b)
message-accepted d s node (create_at port) a b same = refl
message-accepted d s node (delete_at port) a b same = refl
message-accepted d s node (lookup_of name) a b same = refl
message-accepted d s node (send_from port to priority bytes) a b same = by-kind 1 (messages.accepted_by d s (calls node (send_from port to priority bytes) agrees)) (λ x. messages.accepted_by d s (calls node (send_from port to priority bytes) x)) a b each same.kind
  where
    each : (x : PlainAnswer) → messages.accepted_by d s (calls node (send_from port to priority bytes) x) ≡ cond (kind_of x == 1) (messages.accepted_by d s (calls node (send_from port to priority bytes) agrees)) []
    each (refuses word) = refl
    each agrees = refl
    each (tells n) = refl
    each (connects r c) = refl
    each (gives size bytes') = refl
    each (completes place result) = refl
message-accepted d s node (receive_at port max) a b same = refl
message-accepted d s node (request_at port max) a b same = refl
message-accepted d s node (available_at port) a b same = refl
message-accepted d s node (connect_from port to kind) a b same = refl
message-accepted d s node (packet_from port bytes) a b same = refl
message-accepted d s node (lend_at port) a b same = refl
message-accepted d s node (packet_request_at port) a b same = refl
message-accepted d s node (release_of place) a b same = refl
message-accepted d s node (scalar_from port bits value) a b same = refl
message-accepted d s node (scalar_at port bits) a b same = refl
message-accepted d s node (test_of request) a b same = refl
message-accepted d s node (wait_for requests says_place) a b same = refl
message-accepted d s node (cancel_of request) a b same = refl
message-accepted d s node (raw_to to bytes) a b same = refl
message-accepted d s node turn_alone a b same = refl
message-accepted d s node (open_at port side kind) a b same = refl
message-accepted d s node (close_at port Sender) a b same = refl
message-accepted d s node (close_at port Receiver) a b same = refl

pub receive-answered : (s : DomainState) (node : ℕ) (call : DomainCall) (a b : PlainAnswer) → Alike call a b → answered_by s (calls node call a) ≡ answered_by s (calls node call b)
receive-answered s node (create_at port) a b same = refl
receive-answered s node (delete_at port) a b same = refl
receive-answered s node (lookup_of name) a b same = refl
receive-answered s node (send_from port to priority bytes) a b same = refl
receive-answered s node (receive_at port max) a b same = by-gives (answered_by s (calls node (receive_at port max) (gives 0 []))) (λ x. answered_by s (calls node (receive_at port max) x)) a b each (same.given refl)
  where
    each : (x : PlainAnswer) → answered_by s (calls node (receive_at port max) x) ≡ cond (is_gives x) (answered_by s (calls node (receive_at port max) (gives 0 []))) []
    each (refuses word) = refl
    each agrees = refl
    each (tells n) = refl
    each (connects r c) = refl
    each (gives size bytes') = refl
    each (completes place result) = refl
receive-answered s node (request_at port max) a b same = refl
receive-answered s node (available_at port) a b same = refl
receive-answered s node (connect_from port to kind) a b same = refl
receive-answered s node (packet_from port bytes) a b same = refl
receive-answered s node (lend_at port) a b same = by-gives (answered_by s (calls node (lend_at port) (gives 0 []))) (λ x. answered_by s (calls node (lend_at port) x)) a b each (same.given refl)
  where
    each : (x : PlainAnswer) → answered_by s (calls node (lend_at port) x) ≡ cond (is_gives x) (answered_by s (calls node (lend_at port) (gives 0 []))) []
    each (refuses word) = refl
    each agrees = refl
    each (tells n) = refl
    each (connects r c) = refl
    each (gives size bytes') = refl
    each (completes place result) = refl
receive-answered s node (packet_request_at port) a b same = refl
receive-answered s node (release_of place) a b same = refl
receive-answered s node (scalar_from port bits value) a b same = refl
receive-answered s node (scalar_at port bits) a b same = by-kind 2 (answered_by s (calls node (scalar_at port bits) (tells 0))) (λ x. answered_by s (calls node (scalar_at port bits) x)) a b each same.kind
  where
    each : (x : PlainAnswer) → answered_by s (calls node (scalar_at port bits) x) ≡ cond (kind_of x == 2) (answered_by s (calls node (scalar_at port bits) (tells 0))) []
    each (refuses word) = refl
    each agrees = refl
    each (tells n) = refl
    each (connects r c) = refl
    each (gives size bytes') = refl
    each (completes place result) = refl
receive-answered s node (test_of request) a b same = refl
receive-answered s node (wait_for requests says_place) a b same = refl
receive-answered s node (cancel_of request) a b same = refl
receive-answered s node (raw_to to bytes) a b same = refl
receive-answered s node turn_alone a b same = refl
receive-answered s node (open_at port side kind) a b same = refl
receive-answered s node (close_at port Sender) a b same = refl
receive-answered s node (close_at port Receiver) a b same = refl

pub close-lost : (owner number : ℕ) (s : DomainState) (node : ℕ) (call : DomainCall) (a b : PlainAnswer) → Alike call a b → lost_by owner number s (calls node call a) ≡ lost_by owner number s (calls node call b)
close-lost owner number s node (create_at port) a b same = refl
close-lost owner number s node (delete_at port) a b same = refl
close-lost owner number s node (lookup_of name) a b same = refl
close-lost owner number s node (send_from port to priority bytes) a b same = refl
close-lost owner number s node (receive_at port max) a b same = refl
close-lost owner number s node (request_at port max) a b same = refl
close-lost owner number s node (available_at port) a b same = refl
close-lost owner number s node (connect_from port to kind) a b same = refl
close-lost owner number s node (packet_from port bytes) a b same = refl
close-lost owner number s node (lend_at port) a b same = refl
close-lost owner number s node (packet_request_at port) a b same = refl
close-lost owner number s node (release_of place) a b same = refl
close-lost owner number s node (scalar_from port bits value) a b same = refl
close-lost owner number s node (scalar_at port bits) a b same = refl
close-lost owner number s node (test_of request) a b same = refl
close-lost owner number s node (wait_for requests says_place) a b same = refl
close-lost owner number s node (cancel_of request) a b same = refl
close-lost owner number s node (raw_to to bytes) a b same = refl
close-lost owner number s node turn_alone a b same = refl
close-lost owner number s node (open_at port side kind) a b same = refl
close-lost owner number s node (close_at port Sender) a b same = refl
close-lost owner number s node (close_at port Receiver) a b same = by-kind 2 (lost_by owner number s (calls node (close_at port Receiver) (tells 0))) (λ x. lost_by owner number s (calls node (close_at port Receiver) x)) a b each same.kind
  where
    each : (x : PlainAnswer) → lost_by owner number s (calls node (close_at port Receiver) x) ≡ cond (kind_of x == 2) (lost_by owner number s (calls node (close_at port Receiver) (tells 0))) []
    each (refuses word) = refl
    each agrees = refl
    each (tells n) = refl
    each (connects r c) = refl
    each (gives size bytes') = refl
    each (completes place result) = refl

pub delete-dropped : (d : ℕ) (s : DomainState) (node : ℕ) (call : DomainCall) (a b : PlainAnswer) → Alike call a b → dropped_by d s (calls node call a) ≡ dropped_by d s (calls node call b)
delete-dropped d s node (create_at port) a b same = refl
delete-dropped d s node (delete_at port) a b same = by-kind 2 (dropped_by d s (calls node (delete_at port) (tells 0))) (λ x. dropped_by d s (calls node (delete_at port) x)) a b each same.kind
  where
    each : (x : PlainAnswer) → dropped_by d s (calls node (delete_at port) x) ≡ cond (kind_of x == 2) (dropped_by d s (calls node (delete_at port) (tells 0))) []
    each (refuses word) = refl
    each agrees = refl
    each (tells n) = refl
    each (connects r c) = refl
    each (gives size bytes') = refl
    each (completes place result) = refl
delete-dropped d s node (lookup_of name) a b same = refl
delete-dropped d s node (send_from port to priority bytes) a b same = refl
delete-dropped d s node (receive_at port max) a b same = refl
delete-dropped d s node (request_at port max) a b same = refl
delete-dropped d s node (available_at port) a b same = refl
delete-dropped d s node (connect_from port to kind) a b same = refl
delete-dropped d s node (packet_from port bytes) a b same = refl
delete-dropped d s node (lend_at port) a b same = refl
delete-dropped d s node (packet_request_at port) a b same = refl
delete-dropped d s node (release_of place) a b same = refl
delete-dropped d s node (scalar_from port bits value) a b same = refl
delete-dropped d s node (scalar_at port bits) a b same = refl
delete-dropped d s node (test_of request) a b same = refl
delete-dropped d s node (wait_for requests says_place) a b same = refl
delete-dropped d s node (cancel_of request) a b same = refl
delete-dropped d s node (raw_to to bytes) a b same = refl
delete-dropped d s node turn_alone a b same = refl
delete-dropped d s node (open_at port side kind) a b same = refl
delete-dropped d s node (close_at port Sender) a b same = refl
delete-dropped d s node (close_at port Receiver) a b same = refl

-- ---- the answer that is due, and one that is read from its text

by-answer : (o : Option Refusal) (x : PlainAnswer) → (is_gives x ≡ true) ⊎ (kind_of x ≡ 0) → (is_gives (answer_by o x) ≡ true) ⊎ (kind_of (answer_by o x) ≡ 0)
by-answer None x h = h
by-answer (Some word) x h = inr refl

given-is : (max : ℕ) (o : Option Item) → (is_gives (given max o) ≡ true) ⊎ (kind_of (given max o) ≡ 0)
given-is max None = inr refl
given-is max (Some i) = inl refl

lent-is : (o : Option Item) → (is_gives (lent_whole o) ≡ true) ⊎ (kind_of (lent_whole o) ≡ 0)
lent-is None = inr refl
lent-is (Some i) = inl refl

takes-given : (s : DomainState) (node : ℕ) (call : DomainCall) → takes_item call ≡ true → (is_gives (answer s node call) ≡ true) ⊎ (kind_of (answer s node call) ≡ 0)
takes-given s node (create_at port) e = absurd cc
takes-given s node (delete_at port) e = absurd cc
takes-given s node (lookup_of name) e = absurd cc
takes-given s node (send_from port to priority bytes) e = absurd cc
takes-given s node (receive_at port max) e = by-answer (refusal s node (receive_at port max)) (success s node (receive_at port max)) (given-is max (best (λ i. i.priority) (queue_at s (local node port))))
takes-given s node (request_at port max) e = absurd cc
takes-given s node (available_at port) e = absurd cc
takes-given s node (connect_from port to kind) e = absurd cc
takes-given s node (packet_from port bytes) e = absurd cc
takes-given s node (lend_at port) e = by-answer (refusal s node (lend_at port)) (success s node (lend_at port)) (lent-is (oldest (queue_at s (local node port))))
takes-given s node (packet_request_at port) e = absurd cc
takes-given s node (release_of place) e = absurd cc
takes-given s node (scalar_from port bits value) e = absurd cc
takes-given s node (scalar_at port bits) e = absurd cc
takes-given s node (test_of request) e = absurd cc
takes-given s node (wait_for requests says_place) e = absurd cc
takes-given s node (cancel_of request) e = absurd cc
takes-given s node (raw_to to bytes) e = absurd cc
takes-given s node turn_alone e = absurd cc
takes-given s node (open_at port side kind) e = absurd cc
takes-given s node (close_at port side) e = absurd cc

none-gives : (x : PlainAnswer) → kind_of x ≡ 0 → is_gives x ≡ false
none-gives (refuses word) e = refl
none-gives agrees e = refl
none-gives (tells n) e = refl
none-gives (connects r c) e = refl
none-gives (gives size bytes) e = absurd (omega (arith, e))
none-gives (completes place result) e = refl

both-give : (a b : PlainAnswer) → is_gives a ≡ true → kind_of a ≡ kind_of b → spaced (answer_words a) ≡ spaced (answer_words b) → answer_in (spaced (answer_words b)) ≡ Some b → FitsAnswer b → is_gives b ≡ true
both-give (gives size bytes) (gives n bs) e kind text read fits = refl
both-give (gives size bytes) (connects r c) e kind text read fits = absurd (gives-read size bytes r c fits (ap answer_in text ∙ read) (sym text))
both-give (gives size bytes) (refuses word) e kind text read fits = absurd (omega (arith, kind))
both-give (gives size bytes) agrees e kind text read fits = absurd (omega (arith, kind))
both-give (gives size bytes) (tells n) e kind text read fits = absurd (omega (arith, kind))
both-give (gives size bytes) (completes place result) e kind text read fits = absurd (omega (arith, kind))
both-give (refuses word) b e kind text read fits = absurd cc
both-give agrees b e kind text read fits = absurd cc
both-give (tells n) b e kind text read fits = absurd cc
both-give (connects r c) b e kind text read fits = absurd cc
both-give (completes place result) b e kind text read fits = absurd cc

pub due-alike : (s : DomainState) (node : ℕ) (call : DomainCall) (b : PlainAnswer) → spaced (answer_words (answer s node call)) ≡ spaced (answer_words b) → answer_in (spaced (answer_words b)) ≡ Some b → FitsAnswer b → Alike call (answer s node call) b
due-alike s node call b text read fits =
    let a : PlainAnswer = answer s node call in
    let kind = same-kind a b text in
    record {
      kind = kind;
      given = λ takes. elim (takes-given s node call takes) [
        | inl is ↦ is ∙ sym (both-give a b is kind text read fits)
        | inr none ↦ none-gives a none ∙ sym (none-gives b (sym kind ∙ none))
      ];
    }
