-- What is known at a moment of a run of the messages that are queued, and what a taken frame does to them.
use Rattle.board_model.specs.Parts.{came_from, said_from, coming_from, names_before, named_so}
use Rattle.std.proofs.Common.{◌≡◌, inl, inr, ℕ, ◌+◌, Bool, true, false, cond, List, [], ◌∷◌, ◌++◌, filter, flat_map, Option, Some, sym, ap, ◌∙◌, subst, arith}
use Rattle.std.specs.Prelude.{◌==◌}
use Rattle.std.specs.List.{AllByRecursion}
use Rattle.std.proofs.lemmas.Bool.{eq-eqb}
use Rattle.std.proofs.lemmas.List.{append-nil}
use Rattle.mc_base.specs.declared.fate.Fate.{Fate}
use Rattle.board_model.specs.State.{Item, DomainState, held_of}
use Rattle.board_model.specs.TakenFrames.{row_from}
use Rattle.board_model.specs.Deeds.{Deed, takes, happens_by, after_deed}
use Rattle.board_model.specs.Takings.{Taking, is_message_taking}
use Rattle.board_model.specs.MessageOrder.{is_handed, item_said, came_to, items_at, gone_from}
use Rattle.board_model.proofs.DeedRuns.{count_taken}
use Rattle.board_model.proofs.ItemsHeld.{Held}
use Rattle.board_model.proofs.OrderChannels.{row_does}
use Rattle.board_model.proofs.OrderDeeds.{Takes, RowHands, Does, queues}
use Rattle.board_model.proofs.OrderItems.{IsPast, IsNext, next_past_after, Apart, left_of, left_all, all_none_next, LastIs}
use Rattle.board_model.proofs.OrderQueues.{queued_for}
use Rattle.board_model.proofs.OrderRequests.{RequestsBy}
use Rattle.board_model.proofs.OrderSerials.{Serials, given_by_all, serials_changes}
use Rattle.board_model.proofs.OrderSound.{Sound, sound_changes}

pub record Moment (room : ℕ) (before : List Deed) (s : DomainState) : Type 0 where
  pub sound : Sound s
  pub serials : Serials room s
  pub items : (b : ℕ) → AllByRecursion (IsPast before) (queued_for s b)
  pub apart : (b : ℕ) → Apart (queued_for s b)
  pub held : Held (IsPast before) s

-- ---- frames

items_all : (P : Item → Type 0) (b : ℕ) (ts : List Taking) → AllByRecursion (λ t. P t.item) ts → AllByRecursion P (flat_map (items_at b) ts)
items_all P b [] all = tt
items_all P b (t ∷ ts) all = go (t.address == b) (items_all P b ts all.1)
  where
    go : (c : Bool) → AllByRecursion P (flat_map (items_at b) ts) → AllByRecursion P (cond c (t.item ∷ []) [] ++ flat_map (items_at b) ts)
    go true more = (all.0, more)
    go false more = more

pub all_of : {A : Type 0} (P Q : A → Type 0) → ((x : A) → P x → Q x) → (xs : List A) → AllByRecursion P xs → AllByRecursion Q xs
all_of P Q more [] all = tt
all_of P Q more (x ∷ xs) all = (more x all.0, all_of P Q more xs all.1)

-- the last name is the frame's own
pub named_last : (before : List Deed) (s : DomainState) (peer : ℕ) (name : Option ℕ) (frame : List ℕ) → name ≡ Some (count_taken peer before) → LastIs before peer (came_from s peer name frame).names
named_last before s peer name frame named = (names_before (coming_from s peer frame).joins (held_of s peer), ap (λ k. names_before (coming_from s peer frame).joins (held_of s peer) ++ named_so k ∷ []) named)

pub takes_does : (room : ℕ) (before : List Deed) (s : DomainState) (peer : ℕ) (name : Option ℕ) (frame : List ℕ) (word : Fate) → Moment room before s → (row_from s peer name frame).word ≡ word → name ≡ Some (count_taken peer before) → Does room before s (takes peer name frame word)
takes_does room before s peer name frame word moment is named =
    let d : Deed = takes peer name frame word in
    let does = row_does before s moment.sound moment.serials.differ peer (came_from s peer name frame) (named_last before s peer name frame named) (said_from s peer frame) in
    let gone : (b : ℕ) → gone_from b s d ≡ flat_map (items_at b) does.taken = λ b. ap (λ ts. flat_map (items_at b) ts ++ []) does.takings ∙ append-nil (flat_map (items_at b) does.taken) in
    let both : (b : ℕ) → AllByRecursion (λ i. IsNext before i × (i.peer ≡ peer)) (gone_from b s d) = λ b. subst (AllByRecursion (λ i. IsNext before i × (i.peer ≡ peer))) (sym (gone b)) (items_all (λ i. IsNext before i × (i.peer ≡ peer)) b does.taken does.next) in
    let next : (b : ℕ) → AllByRecursion (IsNext before) (gone_from b s d) = λ b. all_of (λ i. IsNext before i × (i.peer ≡ peer)) (IsNext before) (λ i k. k.0) (gone_from b s d) (both b) in
    let after : (i : Item) → IsNext before i → i.peer ≡ peer → IsPast (before ++ d ∷ []) i = λ i n same. next_past_after before d i n (ap (λ (c : Bool). cond c 1 0) (eq-eqb peer i.peer (sym same))) in
    let came : (b : ℕ) → came_to b s d ≡ queues b peer (came_from s peer name frame) (said_from s peer frame) (row_from s peer name frame).word = λ b. ap (queues b peer (came_from s peer name frame) (said_from s peer frame)) (sym is) in
    let none_given : given_by_all (happens_by s d) ≡ 0 = ap (λ n. 0 + n) does.gives_none in
    record {
      sound = sound_changes s (happens_by s d) (tt, does.fits) moment.sound;
      serials = serials_changes room s (happens_by s d) (omega (arith, none_given)) moment.serials;
      queue = λ b. does.queue b ∙ (ap (λ q. q ++ queues b peer (came_from s peer name frame) (said_from s peer frame) (row_from s peer name frame).word) (sym (left_all (gone_from b s d) (queued_for s b) (all_none_next before (gone_from b s d) (queued_for s b) (moment.items b) (next b)))) ∙ ap (λ c. left_of (gone_from b s d) (queued_for s b) ++ c) (sym (came b)));
      comes = λ b. elim (does.comes b) [
        | inl none ↦ inl (came b ∙ none)
        | inr one ↦ inr (one.0, came b ∙ one.1, one.2, gone b ∙ ap (flat_map (items_at b)) one.3, after one.0 one.2 one.4)
      ];
      gone = λ b. all_of (λ i. IsNext before i × (i.peer ≡ peer)) (IsPast (before ++ d ∷ [])) (λ i k. after i k.0 k.1) (gone_from b s d) (both b);
      takes_best = subst (λ ts. AllByRecursion (Takes s d) (filter is_message_taking ts)) (sym does.takings) (all_of (RowHands s peer (came_from s peer name frame) (said_from s peer frame) (row_from s peer name frame).word) (Takes s d)
          (λ t h. inr (record { nothing_queued = h.nothing_queued; comes = ap (λ w. cond (is_handed w) (item_said t.address peer (came_from s peer name frame) (said_from s peer frame)) []) (sym is) ∙ h.comes; waits = h.waits })) (filter is_message_taking does.taken) does.hands);
      requests = subst (λ ts. RequestsBy s (after_deed s d).requests ts (after_deed s d).requests_given) (sym does.takings) does.requests;
    }
