-- What the changes of a call do to the messages that are queued, where some takings are answered at once and some items are dropped.
use Rattle.std.proofs.Common.{◌≡◌, ◌⊎◌, inl, inr, ℕ, ◌-◌, ◌≤◌, List, [], ◌∷◌, ◌++◌, filter, flat_map, Some, refl, sym, ap, ap₂, ◌∙◌, subst}
use Rattle.std.specs.List.{AllByRecursion}
use Rattle.std.proofs.lemmas.List.{append-nil}
use Rattle.mc_base.specs.declared.refusal.Refusal.{Refusal}
use Rattle.board_model.specs.DomainCall.{DomainCall, delete_at, receive_at}
use Rattle.board_model.specs.Journal.{PlainAnswer, refuses}
use Rattle.board_model.specs.Choice.{best}
use Rattle.board_model.specs.State.{Item, DomainState}
use Rattle.board_model.specs.Change.{Change, packet_lent, changed_all}
use Rattle.board_model.specs.CallChanges.{call_changes}
use Rattle.board_model.specs.Deeds.{Deed, calls, after_deed}
use Rattle.board_model.specs.Takings.{Taking, is_message_taking, answered_by}
use Rattle.board_model.specs.MessageOrder.{items_at, dropped_from, gone_from}
use Rattle.board_model.proofs.OrderDeeds.{Takes, Does}
use Rattle.board_model.proofs.OrderItems.{IsPast, all_past_more, left_of, left_none}
use Rattle.board_model.proofs.OrderQueues.{queued_for}
use Rattle.board_model.proofs.OrderRequests.{RequestsBy}
use Rattle.board_model.proofs.OrderSerials.{Serials, given_by_all, serials_changes}
use Rattle.board_model.proofs.OrderSound.{Sound, FitAllSound, sound_changes}
use Rattle.board_model.proofs.OrderTakings.{taken_of, IsOld, none_taken}
use Rattle.board_model.proofs.OrderMoments.{Moment, all_of}

-- ---- a refused call

pub refused_none : (s : DomainState) (node : ℕ) (call : DomainCall) (w : Refusal) → answered_by s (calls node call (refuses w)) ≡ []
refused_none s node (receive_at port max) w = refl
refused_none s node other w = refl

pub refused_dropped : (b : ℕ) (s : DomainState) (node : ℕ) (call : DomainCall) (w : Refusal) → dropped_from b s (calls node call (refuses w)) ≡ []
refused_dropped b s node (delete_at port) w = refl
refused_dropped b s node other w = refl

-- ---- what changes do, where these takings are answered at once and these items are dropped

abbrev pub gone_of : List Taking → (ℕ → List Item) → ℕ → List Item
gone_of ts dropped b = flat_map (items_at b) ts ++ dropped b

-- the best that is queued is taken
abbrev pub IsBest : DomainState → Taking → Type 0
IsBest s t = best (λ i. i.priority) (queued_for s t.address) ≡ Some t.item

pub record Effect (before : List Deed) (s : DomainState) (cs : List Change) (answered : List Taking) (dropped : ℕ → List Item) : Type 0 where
  pub fits : FitAllSound s cs
  pub completed : List Taking
  pub takings : taken_of s (changed_all s cs).requests ≡ completed
  pub queue : (b : ℕ) → queued_for (changed_all s cs) b ≡ left_of (gone_of (answered ++ completed) dropped b) (queued_for s b)
  pub past : (b : ℕ) → AllByRecursion (IsPast before) (gone_of (answered ++ completed) dropped b)
  pub best_first : AllByRecursion (IsBest s) (filter is_message_taking (answered ++ completed))
  pub requests : RequestsBy s (changed_all s cs).requests (answered ++ completed) (changed_all s cs).requests_given

pub effect_does : (room : ℕ) (before : List Deed) (s : DomainState) (moment : Moment room before s) (node : ℕ) (call : DomainCall) (a : PlainAnswer) (cs : List Change) (answered : List Taking) (dropped : ℕ → List Item) →
    call_changes s node call ≡ cs → answered_by s (calls node call a) ≡ answered → ((b : ℕ) → dropped_from b s (calls node call a) ≡ dropped b) → given_by_all cs ≤ room → Effect before s cs answered dropped → Does room before s (calls node call a)
effect_does room before s moment node call a cs answered dropped happens answers drops fits effect =
    let d : Deed = calls node call a in
    let after : after_deed s d ≡ changed_all s cs = ap (changed_all s) happens in
    let gone : (b : ℕ) → gone_from b s d ≡ gone_of (answered ++ effect.completed) dropped b = λ b.
    ap (λ ts. flat_map (items_at b) (ts ++ taken_of s (after_deed s d).requests) ++ dropped_from b s d) answers
    ∙ (ap (λ ts. flat_map (items_at b) (answered ++ ts) ++ dropped_from b s d) (ap (λ t. taken_of s t.requests) after ∙ effect.takings)
    ∙ ap (λ is. flat_map (items_at b) (answered ++ effect.completed) ++ is) (drops b)) in
    record {
      sound = subst Sound (sym after) (sound_changes s cs effect.fits moment.sound);
      serials = subst (λ xs. Serials (room - given_by_all xs) (changed_all s xs)) (sym happens) (serials_changes room s cs fits moment.serials);
      queue = λ b. ap (λ t. queued_for t b) after ∙ (effect.queue b ∙ (ap (λ g. left_of g (queued_for s b)) (sym (gone b)) ∙ sym (append-nil (left_of (gone_from b s d) (queued_for s b)))));
      comes = λ b. inl refl;
      gone = λ b. subst (AllByRecursion (IsPast (before ++ d ∷ []))) (sym (gone b)) (all_past_more before d (gone_of (answered ++ effect.completed) dropped b) (effect.past b));
      takes_best = subst (λ ts. AllByRecursion (Takes s d) (filter is_message_taking ts)) (sym (ap₂ (λ xs ys. xs ++ ys) answers (ap (λ t. taken_of s t.requests) after ∙ effect.takings)))
          (all_of (IsBest s) (Takes s d) (λ t is. inl is) (filter is_message_taking (answered ++ effect.completed)) effect.best_first);
      requests = subst (λ ts. RequestsBy s (after_deed s d).requests ts (after_deed s d).requests_given) (sym (ap₂ (λ xs ys. xs ++ ys) answers (ap (λ t. taken_of s t.requests) after ∙ effect.takings)))
          (subst (λ t. RequestsBy s t.requests (answered ++ effect.completed) t.requests_given) (sym after) effect.requests);
    }

-- changes by which nothing goes
pub quiet : (before : List Deed) (s : DomainState) (cs : List Change) → FitAllSound s cs → AllByRecursion (IsOld s) (changed_all s cs).requests → ((b : ℕ) → queued_for (changed_all s cs) b ≡ queued_for s b) → RequestsBy s (changed_all s cs).requests [] (changed_all s cs).requests_given → Effect before s cs [] (λ b. [])
quiet before s cs fits old same requests = record {
  fits = fits;
  completed = [];
  takings = none_taken s (changed_all s cs).requests old;
  queue = λ b. same b ∙ sym (left_none (queued_for s b));
  past = λ b. tt;
  best_first = tt;
  requests = requests;
}

-- a test gives no request
pub test_given : (lent : List Change) → (lent ≡ []) ⊎ ((i : Item) × (lent ≡ packet_lent i ∷ [])) → given_by_all lent ≡ 0
test_given lent (inl none) = ap given_by_all none
test_given lent (inr one) = ap given_by_all one.1
