-- At every moment of a run the queue of each endpoint is what stands at its address: what came there and is not gone.
use Rattle.board_model.specs.Parts.{Came, came_from}
use Rattle.std.proofs.Common.{◌≡◌, inl, inr, ℕ, ◌+◌, ◌-◌, ◌<◌, ◌≤◌, ◌^◌, Bool, true, false, not, cond, List, [], ◌∷◌, ◌++◌, map, filter, refl, sym, ap, ap₂, ◌∙◌, subst, arith}
use Rattle.std.specs.List.{AllByRecursion, list_any}
use Rattle.std.proofs.lemmas.Bool.{eq-eqb}
use Rattle.std.proofs.lemmas.List.{append-nil, append_assoc}
use Rattle.board_model.specs.State.{Item, Request, DomainState}
use Rattle.board_model.specs.Deeds.{Deed, looks_back, puts_owed, looks_ahead, takes, calls, happens_by, after_deed, after_deeds, MayDo, along}
use Rattle.board_model.specs.MessageOrder.{is_by, taken_for, is_same, came_to, gone_from, standing}
use Rattle.board_model.specs.TakenFrames.{item_of}
use Rattle.board_model.proofs.DeedRuns.{IsNamed, count_taken}
use Rattle.board_model.proofs.LaneRows.{item-peer, item-frames}
use Rattle.board_model.proofs.ItemsHeld.{held-weaker, BringsItems, deed-holds}
use Rattle.board_model.proofs.OrderMoments.{Moment, named_last}
use Rattle.board_model.proofs.OrderGiven.{takes_given, call_given}
use Rattle.board_model.proofs.OrderCalls.{calls_does}
use Rattle.board_model.proofs.OrderDeeds.{Does, Comes, looks_back_does, puts_owed_does, looks_ahead_does}
use Rattle.board_model.proofs.OrderItems.{IsPast, past_more, next_past_after, all_past_more, Apart, Unlike, left_of, left_append, left_twice, left_all, none_in_past, apart_last}
use Rattle.board_model.proofs.OrderQueues.{queued_for}
use Rattle.board_model.specs.Takings.{Taking, takings_by, cancelled_by}
use Rattle.board_model.proofs.OrderRequests.{Took, Held, IsDone, taken_more, items_by, held_more, done_more, all_holds_same}
use Rattle.board_model.proofs.OrderSerials.{given_by_all, succeeds}
use Rattle.board_model.proofs.DeedJoins.{after-join}

-- ---- deeds one after the other

pub along_append : {A : Type 0} (f : DomainState → Deed → List A) (s : DomainState) (xs ys : List Deed) → along f s (xs ++ ys) ≡ along f s xs ++ along f (after_deeds s xs) ys
along_append f s [] ys = refl
along_append f s (x ∷ xs) ys = ap (λ zs. f s x ++ zs) (along_append f (after_deed s x) xs ys) ∙ sym (append_assoc (f s x) (along f (after_deed s x) xs) (along f (after_deeds (after_deed s x) xs) ys))

pub along_one : {A : Type 0} (f : DomainState → Deed → List A) (s : DomainState) (xs : List Deed) (d : Deed) → along f s (xs ++ d ∷ []) ≡ along f s xs ++ f (after_deeds s xs) d
along_one f s xs d = along_append f s xs (d ∷ []) ∙ ap (λ ys. along f s xs ++ ys) (append-nil (f (after_deeds s xs) d))

all_filtered : (P : Item → Type 0) (p : Item → Bool) (is : List Item) → AllByRecursion P is → AllByRecursion P (filter p is)
all_filtered P p [] all = tt
all_filtered P p (i ∷ is) all = go (p i) (all_filtered P p is all.1)
  where
    go : (b : Bool) → AllByRecursion P (filter p is) → AllByRecursion P (cond b (i ∷ filter p is) (filter p is))
    go true more = (all.0, more)
    go false more = more

apart_filtered : (p : Item → Bool) (is : List Item) → Apart is → Apart (filter p is)
apart_filtered p [] apart = tt
apart_filtered p (i ∷ is) apart = go (p i) (apart_filtered p is apart.1)
  where
    go : (b : Bool) → Apart (filter p is) → Apart (cond b (i ∷ filter p is) (filter p is))
    go true more = (all_filtered (Unlike i) p is apart.0, more)
    go false more = more

all_append : (P : Item → Type 0) (xs ys : List Item) → AllByRecursion P xs → AllByRecursion P ys → AllByRecursion P (xs ++ ys)
all_append P [] ys a b = b
all_append P (x ∷ xs) ys a b = (a.0, all_append P xs ys a.1 b)

-- ---- the invariant

pub record Stands (room : ℕ) (start : DomainState) (before : List Deed) : Type 0 where
  pub moment : Moment room before (after_deeds start before)
  pub gone : (b : ℕ) → AllByRecursion (IsPast before) (along (gone_from b) start before)
  pub queues : (b : ℕ) → queued_for (after_deeds start before) b ≡ standing start before b
  pub held : Held (taken_for start before) (after_deeds start before).requests (after_deeds start before).requests_given
  pub done : AllByRecursion (IsDone (taken_for start before) (after_deeds start before).requests (after_deeds start before).requests_given) (along cancelled_by start before)

-- what is queued after a deed differs
came_past : (before : List Deed) (d : Deed) (came gone : List Item) → Comes before d came gone → AllByRecursion (IsPast (before ++ d ∷ [])) came
came_past before d came gone (inl none) = subst (AllByRecursion (IsPast (before ++ d ∷ []))) (sym none) tt
came_past before d came gone (inr one) = subst (AllByRecursion (IsPast (before ++ d ∷ []))) (sym one.1) (one.4, tt)

apart_came : (before : List Deed) (d : Deed) (gone q came : List Item) → Apart q → AllByRecursion (IsPast before) q → Comes before d came gone → Apart (left_of gone q ++ came)
apart_came before d gone q came apart past (inl none) = subst (λ c. Apart (left_of gone q ++ c)) (sym none) (subst Apart (sym (append-nil (left_of gone q))) (apart_filtered (λ i. not (list_any (is_same i) gone)) q apart))
apart_came before d gone q came apart past (inr one) =
    subst (λ c. Apart (left_of gone q ++ c)) (sym one.1)
    (apart_last before (left_of gone q) one.0 (apart_filtered (λ i. not (list_any (is_same i) gone)) q apart) (all_filtered (IsPast before) (λ i. not (list_any (is_same i) gone)) q past) one.2)

-- what stands after a deed
left_came : (before : List Deed) (d : Deed) (all gone came : List Item) → AllByRecursion (IsPast before) all → Comes before d came gone → left_of (all ++ gone) came ≡ came
left_came before d all gone came past (inl none) = ap (left_of (all ++ gone)) none ∙ sym none
left_came before d all gone came past (inr one) =
    ap₂ (λ g c. left_of (all ++ g) c) one.3 one.1
    ∙ (ap (λ g. left_of g (one.0 ∷ [])) (append-nil all)
    ∙ (left_all all (one.0 ∷ []) (none_in_past before one.0 all one.2 past, tt) ∙ sym one.1))

stood : (start : DomainState) (before : List Deed) (d : Deed) (b : ℕ) → AllByRecursion (IsPast before) (along (gone_from b) start before) → Comes before d (came_to b (after_deeds start before) d) (gone_from b (after_deeds start before) d) →
    standing start (before ++ d ∷ []) b ≡ left_of (gone_from b (after_deeds start before) d) (standing start before b) ++ came_to b (after_deeds start before) d
stood start before d b past comes =
    let s = after_deeds start before in
    let all = along (gone_from b) start before in
    let was = along (came_to b) start before in
    ap₂ (λ g c. left_of g c) (along_one (gone_from b) start before d) (along_one (came_to b) start before d)
    ∙ (left_append (all ++ gone_from b s d) was (came_to b s d)
    ∙ ap₂ (λ x y. x ++ y) (left_twice all (gone_from b s d) was) (left_came before d all (gone_from b s d) (came_to b s d) past comes))

-- ---- what requests took

items_append : (k : ℕ) (xs ys : List Taking) → items_by k (xs ++ ys) ≡ items_by k xs ++ items_by k ys
items_append k [] ys = refl
items_append k (x ∷ xs) ys = go (is_by k x.request) (items_append k xs ys)
  where
    go : (b : Bool) → items_by k (xs ++ ys) ≡ items_by k xs ++ items_by k ys → map (λ (t : Taking). t.item) (cond b (x ∷ filter (λ t. is_by k t.request) (xs ++ ys)) (filter (λ t. is_by k t.request) (xs ++ ys))) ≡ map (λ (t : Taking). t.item) (cond b (x ∷ filter (λ t. is_by k t.request) xs) (filter (λ t. is_by k t.request) xs)) ++ items_by k ys
    go true more = ap (λ is. x.item ∷ is) more
    go false more = more

pub taken_after : (start : DomainState) (before : List Deed) (d : Deed) (k : ℕ) → taken_for start (before ++ d ∷ []) k ≡ taken_more (taken_for start before) (takings_by (after_deeds start before) d) k
taken_after start before d k = ap (items_by k) (along_one takings_by start before d) ∙ items_append k (along takings_by start before) (takings_by (after_deeds start before) d)

held_same : (a b : Took) (rs : List Request) (n : ℕ) → ((k : ℕ) → b k ≡ a k) → Held a rs n → Held b rs n
held_same a b rs n same h = record { each = all_holds_same a b same rs h.each; fresh = λ k le. same k ∙ h.fresh k le }

pub done_same : (a b : Took) (rs : List Request) (n k : ℕ) → ((j : ℕ) → b j ≡ a j) → IsDone a rs n k → IsDone b rs n k
done_same a b rs n k same d = record { nothing = same k ∙ d.nothing; low = d.low; away = d.away }

-- ---- what is cancelled

pub all_done : (P Q : ℕ → Type 0) → ((k : ℕ) → P k → Q k) → (ks : List ℕ) → AllByRecursion P ks → AllByRecursion Q ks
all_done P Q more [] all = tt
all_done P Q more (k ∷ ks) all = (more k all.0, all_done P Q more ks all.1)

all_both : (P : ℕ → Type 0) (xs ys : List ℕ) → AllByRecursion P xs → AllByRecursion P ys → AllByRecursion P (xs ++ ys)
all_both P [] ys a b = b
all_both P (x ∷ xs) ys a b = (a.0, all_both P xs ys a.1 b)

-- each item that comes by a deed came before the next
brings_past : (before : List Deed) (s : DomainState) (d : Deed) → IsNamed before d → BringsItems (IsPast (before ++ d ∷ [])) s d
brings_past before s (takes peer name frame word) named = λ source l.
    let c : Came = came_from s peer name frame in
    let from = item-peer peer c source l in
    let last = named_last before s peer name frame named in
    next_past_after before (takes peer name frame word) (item_of peer c source l) (last.0, item-frames peer c source l ∙ (last.1 ∙ ap (λ p. last.0 ++ count_taken p before ∷ []) (sym from))) (ap (λ (b : Bool). cond b 1 0) (eq-eqb peer (item_of peer c source l).peer (sym from)))
brings_past before s (looks_back peer count) named = tt
brings_past before s (puts_owed peer frame) named = tt
brings_past before s (looks_ahead peer count) named = tt
brings_past before s (calls node call a) named = tt

-- one deed more
pub stands_more : (room : ℕ) (start : DomainState) (before : List Deed) (d : Deed) (less : ℕ) → IsNamed before d → given_by_all (happens_by (after_deeds start before) d) ≤ less → less ≤ room → (after_deeds start before).requests_given + 1 < 2 ^ 64 → AllByRecursion (IsDone (taken_for start (before ++ d ∷ [])) (after_deed (after_deeds start before) d).requests (after_deed (after_deeds start before) d).requests_given) (cancelled_by (after_deeds start before) d) → Stands room start before → Does room before (after_deeds start before) d → Stands (room - less) start (before ++ d ∷ [])
stands_more room start before d less named given fits small cancelled stands does =
    let s : DomainState = after_deeds start before in
    let after : after_deeds start (before ++ d ∷ []) ≡ after_deed s d = after-join start before (d ∷ []) in
    record {
      moment = subst (λ t. Moment (room - less) (before ++ d ∷ []) t) (sym after) (record {
        sound = does.sound;
        serials = record { differ = does.serials.differ; below = does.serials.below; small = omega (arith, does.serials.small, given, fits) };
        items = λ b. subst (AllByRecursion (IsPast (before ++ d ∷ []))) (sym (does.queue b))
            (all_append (IsPast (before ++ d ∷ [])) (left_of (gone_from b s d) (queued_for s b)) (came_to b s d) (all_filtered (IsPast (before ++ d ∷ [])) (λ i. not (list_any (is_same i) (gone_from b s d))) (queued_for s b) (all_past_more before d (queued_for s b) (stands.moment.items b))) (came_past before d (came_to b s d) (gone_from b s d) (does.comes b)));
        apart = λ b. subst Apart (sym (does.queue b)) (apart_came before d (gone_from b s d) (queued_for s b) (came_to b s d) (stands.moment.apart b) (stands.moment.items b) (does.comes b));
        held = deed-holds (IsPast (before ++ d ∷ [])) s d (brings_past before s d named) (held-weaker (IsPast before) (IsPast (before ++ d ∷ [])) (past_more before d) s stands.moment.held);
      });
      gone = λ b. subst (AllByRecursion (IsPast (before ++ d ∷ []))) (sym (along_one (gone_from b) start before d)) (all_append (IsPast (before ++ d ∷ [])) (along (gone_from b) start before) (gone_from b s d) (all_past_more before d (along (gone_from b) start before) (stands.gone b)) (does.gone b));
      queues = λ b. ap (λ t. queued_for t b) after ∙ (does.queue b ∙ (ap (λ q. left_of (gone_from b s d) q ++ came_to b s d) (stands.queues b) ∙ sym (stood start before d b (stands.gone b) (does.comes b))));
      held = subst (λ t. Held (taken_for start (before ++ d ∷ [])) t.requests t.requests_given) (sym after) (held_same (taken_more (taken_for start before) (takings_by s d)) (taken_for start (before ++ d ∷ [])) (after_deed s d).requests (after_deed s d).requests_given (taken_after start before d)
          (held_more (taken_for start before) s stands.moment.serials.differ stands.moment.serials.below small stands.held (after_deed s d).requests (takings_by s d) (after_deed s d).requests_given does.requests));
      done = subst (λ t. AllByRecursion (IsDone (taken_for start (before ++ d ∷ [])) t.requests t.requests_given) (along cancelled_by start (before ++ d ∷ []))) (sym after)
          (subst (AllByRecursion (IsDone (taken_for start (before ++ d ∷ [])) (after_deed s d).requests (after_deed s d).requests_given)) (sym (along_one cancelled_by start before d))
          (all_both (IsDone (taken_for start (before ++ d ∷ [])) (after_deed s d).requests (after_deed s d).requests_given) (along cancelled_by start before) (cancelled_by s d)
          (all_done (IsDone (taken_for start before) s.requests s.requests_given) (IsDone (taken_for start (before ++ d ∷ [])) (after_deed s d).requests (after_deed s d).requests_given) (λ k isdone. done_same (taken_more (taken_for start before) (takings_by s d)) (taken_for start (before ++ d ∷ [])) (after_deed s d).requests (after_deed s d).requests_given k (taken_after start before d)
          (done_more (taken_for start before) s stands.moment.serials.differ stands.moment.serials.below small stands.held (after_deed s d).requests (takings_by s d) (after_deed s d).requests_given does.requests k isdone)) (along cancelled_by start before) stands.done)
          cancelled));
    }

-- ---- along a run

pub given_few : (room : ℕ) (before : List Deed) (s : DomainState) (d : Deed) → MayDo s d → IsNamed before d → succeeds d ≤ room → Moment room before s → Does room before s d × (given_by_all (happens_by s d) ≤ succeeds d)
given_few room before s (looks_back peer count) may named few moment = (looks_back_does room before s moment.sound moment.serials peer count, omega arith)
given_few room before s (puts_owed peer frame) may named few moment = (puts_owed_does room before s moment.sound moment.serials peer frame, omega arith)
given_few room before s (looks_ahead peer count) may named few moment = (looks_ahead_does room before s moment.sound moment.serials peer count, omega arith)
given_few room before s (takes peer name frame word) may named few moment = takes_given room before s peer name frame word moment may named
given_few room before s (calls node call a) may named few moment = (calls_does room before s moment node call a may few, call_given s node call a may)
