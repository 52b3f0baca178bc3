-- What the requests of a domain hold: each the item that it took, and none where it took none; and a request that was cancelled took
-- nothing.
use Rattle.std.proofs.Common.{◌≡◌, ◌⊎◌, inl, inr, ℕ, ◌+◌, ◌%◌, ◌^◌, ◌<◌, ◌≤◌, Bool, true, false, cond, List, [], ◌∷◌, ◌++◌, map, filter, find, Option, Some, None, refl, sym, ap, ap₂, ◌∙◌, subst, arith}
use Rattle.std.specs.Prelude.{◌==◌, ◌&&◌, is_none}
use Rattle.std.specs.List.{AllByRecursion}
use Rattle.std.proofs.lemmas.Bool.{eqb-true, eq-eqb, ne_eqb, cases_Bool, and_parts}
use Rattle.std.proofs.lemmas.List.{append-nil}
use Rattle.std.proofs.Math.Nat.{mod-eq_of_lt}
use Rattle.mc_base.specs.declared.name.Local.{Local}
use Rattle.mc_base.specs.declared.name.EndName.{EndName}
use Rattle.mc_base.specs.declared.refusal.Refusal.{Refusal}
use Rattle.board_model.specs.Lists.{changed_first, without}
use Rattle.board_model.specs.State.{Item, Endpoint, Asked, name_of, channel_of, message_at, packet_at, Outcome, has_address, is_accepted, is_rejected, has_item, has_ended, Request, DomainState, waits_at, receives_at}
use Rattle.board_model.specs.Change.{done_with, all_done, asks_for, connects_on, ended_in}
use Rattle.board_model.specs.Takings.{Taking, item_held}
use Rattle.board_model.specs.MessageOrder.{is_by}
use Rattle.board_model.proofs.OrderSerials.{IsOther, Differ, Below, all_without, all_last}

-- the items that requests of a serial took
abbrev pub items_by : ℕ → List Taking → List Item
items_by k ts = map (λ t. t.item) (filter (λ t. is_by k t.request) ts)

abbrev pub NoneBy : List Taking → Type 0
NoneBy ts = (k : ℕ) → items_by k ts ≡ []

-- a request is complete as it may be by what was asked
abbrev pub FitsAsked : Asked → Option Outcome → Type 0
FitsAsked (message_at at max) None = Unit {0}
FitsAsked (message_at at max) (Some (has_item i)) = Unit {0}
FitsAsked (message_at at max) (Some (has_ended word)) = Unit {0}
FitsAsked (packet_at at) None = Unit {0}
FitsAsked (packet_at at) (Some (has_item i)) = Unit {0}
FitsAsked (packet_at at) (Some (has_ended word)) = Unit {0}
FitsAsked (name_of name) None = Unit {0}
FitsAsked (name_of name) (Some (has_address a)) = Unit {0}
FitsAsked (channel_of number) None = Unit {0}
FitsAsked (channel_of number) (Some is_accepted) = Unit {0}
FitsAsked (channel_of number) (Some (is_rejected reason)) = Unit {0}
FitsAsked asked o = ⊥

-- a request stays, or is complete without an item
abbrev pub Turns : Request → Request → Type 0
Turns r q = (q ≡ r) ⊎ ((o : Outcome) × (q ≡ done_with o r) × (r.outcome ≡ None) × (item_held (Some o) ≡ []) × FitsAsked r.asked (Some o))

-- what a deed does to the requests, with its takings and the number of requests given after it
pub data RequestsBy (s : DomainState) : List Request → List Taking → ℕ → Type 0 where
  kept : (ts : List Taking) → NoneBy ts → RequestsBy s s.requests ts s.requests_given
  turned : (f : Request → Request) → ((r : Request) → FitsAsked r.asked r.outcome → Turns r (f r)) → RequestsBy s (map f s.requests) [] s.requests_given
  gone : (place : Option ℕ) → RequestsBy s (without place s.requests) [] s.requests_given
  given : (asked : Asked) (o : Option Outcome) (ts : List Taking) → FitsAsked asked o → ((k : ℕ) → items_by k ts ≡ cond (s.requests_given == k) (item_held o) []) →
      RequestsBy s (s.requests ++ record { serial = s.requests_given; asked = asked; outcome = o } ∷ []) ts ((s.requests_given + 1) % 2 ^ 64)
  handed : (at : Local) (i : Item) (ts : List Taking) → (find (waits_at at) s.requests ≡ None → NoneBy ts) →
      ((r : Request) → find (waits_at at) s.requests ≡ Some r → (k : ℕ) → items_by k ts ≡ cond (r.serial == k) (i ∷ []) []) →
      RequestsBy s (changed_first (waits_at at) (done_with (has_item i)) s.requests) ts s.requests_given

-- what was taken so far by serials, what each request holds, and that later serials took nothing
abbrev pub Took : Type 0
Took = ℕ → List Item

pub record Holds (took : Took) (r : Request) : Type 0 where
  pub items : took r.serial ≡ item_held r.outcome
  pub fits : FitsAsked r.asked r.outcome

abbrev pub taken_more : Took → List Taking → Took
taken_more took ts k = took k ++ items_by k ts

-- a serial that no request has any more, which took nothing
pub record IsDone (took : Took) (rs : List Request) (n : ℕ) (k : ℕ) : Type 0 where
  pub nothing : took k ≡ []
  pub low : k < n
  pub away : AllByRecursion (IsOther k) rs

pub record Held (took : Took) (rs : List Request) (n : ℕ) : Type 0 where
  pub each : AllByRecursion (Holds took) rs
  pub fresh : (k : ℕ) → n ≤ k → took k ≡ []

-- ---- where nothing is taken

more_none : (took : Took) (ts : List Taking) → NoneBy ts → (k : ℕ) → taken_more took ts k ≡ took k
more_none took ts none k = ap (λ is. took k ++ is) (none k) ∙ append-nil (took k)

holds_same : (a b : Took) (r : Request) → b r.serial ≡ a r.serial → Holds a r → Holds b r
holds_same a b r same h = record { items = same ∙ h.items; fits = h.fits }

pub all_holds_same : (a b : Took) → ((k : ℕ) → b k ≡ a k) → (rs : List Request) → AllByRecursion (Holds a) rs → AllByRecursion (Holds b) rs
all_holds_same a b same [] all = tt
all_holds_same a b same (r ∷ rs) all = (holds_same a b r (same r.serial) all.0, all_holds_same a b same rs all.1)

-- ---- requests that turn

turned_holds : (took : Took) (r q : Request) → Holds took r → Turns r q → Holds took q
turned_holds took r q h (inl same) = subst (Holds took) (sym same) h
turned_holds took r q h (inr turns) =
    subst (Holds took) (sym turns.1) (record {
      items = h.items ∙ (ap item_held turns.2 ∙ sym turns.3);
      fits = turns.4;
    })

turned_serial : (r q : Request) → Turns r q → q.serial ≡ r.serial
turned_serial r q (inl same) = ap (λ x. x.serial) same
turned_serial r q (inr turns) = ap (λ x. x.serial) turns.1

all_turned : (took : Took) (f : Request → Request) → ((r : Request) → FitsAsked r.asked r.outcome → Turns r (f r)) → (rs : List Request) → AllByRecursion (Holds took) rs → AllByRecursion (Holds took) (map f rs)
all_turned took f turns [] all = tt
all_turned took f turns (r ∷ rs) all = let h : Holds took r = all.0 in (turned_holds took r (f r) h (turns r h.fits), all_turned took f turns rs all.1)

away_turned : (took : Took) (k : ℕ) (f : Request → Request) → ((r : Request) → FitsAsked r.asked r.outcome → Turns r (f r)) → (rs : List Request) → AllByRecursion (Holds took) rs → AllByRecursion (IsOther k) rs → AllByRecursion (IsOther k) (map f rs)
away_turned took k f turns [] all away = tt
away_turned took k f turns (r ∷ rs) all away = let h : Holds took r = all.0 in (ap (λ n. n == k) (turned_serial r (f r) (turns r h.fits)) ∙ away.0, away_turned took k f turns rs all.1 away.1)

-- ---- a request that is given

below_holds : (took : Took) (n : ℕ) (ts : List Taking) (is : List Item) → ((k : ℕ) → items_by k ts ≡ cond (n == k) is []) → (rs : List Request) → Below n rs → AllByRecursion (Holds took) rs → AllByRecursion (Holds (taken_more took ts)) rs
below_holds took n ts is items [] below all = tt
below_holds took n ts is items (r ∷ rs) below all = (
  let low : r.serial < n = below.0 in
      holds_same took (taken_more took ts) r (ap (λ xs. took r.serial ++ xs) (items r.serial ∙ ap (λ (b : Bool). cond b is []) (ne_eqb n r.serial (λ same. absurd (omega arith)))) ∙ append-nil (took r.serial)) all.0,
  below_holds took n ts is items rs below.1 all.1,
)

-- ---- a request that is handed an item

handed_holds : (took : Took) (p : Request → Bool) (i : Item) (ts : List Taking) (r : Request) → ((k : ℕ) → items_by k ts ≡ cond (r.serial == k) (i ∷ []) []) → r.outcome ≡ None → FitsAsked r.asked (Some (has_item i)) →
    (rs : List Request) → find p rs ≡ Some r → Differ rs → AllByRecursion (Holds took) rs → AllByRecursion (Holds (taken_more took ts)) (changed_first p (done_with (has_item i)) rs)
handed_holds took p i ts r items pending fits [] found differ all = absurd cc
handed_holds took p i ts r items pending fits (x ∷ xs) found differ all = go (p x) found (λ k. handed_holds took p i ts r items pending fits xs k differ.1 all.1) (λ k. found_other p xs r k differ.0)
  where
    found_other : (p : Request → Bool) (qs : List Request) (q : Request) → find p qs ≡ Some q → AllByRecursion (IsOther x.serial) qs → (q.serial == x.serial) ≡ false
    found_other p [] q k away = absurd cc
    found_other p (y ∷ ys) q k away = elim (cases_Bool (p y)) [
      | inl on ↦ let f : Some y ≡ Some q = sym (ap (λ (b : Bool). cond b (Some y) (find p ys)) on) ∙ k in let same : y ≡ q = cc in subst (λ z. (z.serial == x.serial) ≡ false) same away.0
      | inr off ↦ found_other p ys q (sym (ap (λ (b : Bool). cond b (Some y) (find p ys)) off) ∙ k) away.1
    ]

    others : (qs : List Request) → AllByRecursion (IsOther r.serial) qs → AllByRecursion (Holds took) qs → AllByRecursion (Holds (taken_more took ts)) qs
    others [] away hs = tt
    others (q ∷ qs) away hs = (holds_same took (taken_more took ts) q (ap (λ is. took q.serial ++ is) (items q.serial ∙ ap (λ (b : Bool). cond b (i ∷ []) []) (turned q away.0)) ∙ append-nil (took q.serial)) hs.0, others qs away.1 hs.1)
      where
        turned : (q : Request) → (q.serial == r.serial) ≡ false → (r.serial == q.serial) ≡ false
        turned q other = grind (arith, eqb-true, eq-eqb, other)

    here : Holds took r → Holds (taken_more took ts) (done_with (has_item i) r)
    here h = record {
      items = ap₂ (λ a b. a ++ b) (h.items ∙ ap item_held pending) (items r.serial ∙ ap (λ (b : Bool). cond b (i ∷ []) []) (eq-eqb r.serial r.serial refl));
      fits = fits;
    }

    go : (b : Bool) → cond b (Some x) (find p xs) ≡ Some r → (find p xs ≡ Some r → AllByRecursion (Holds (taken_more took ts)) (changed_first p (done_with (has_item i)) xs)) → (find p xs ≡ Some r → (r.serial == x.serial) ≡ false) →
        AllByRecursion (Holds (taken_more took ts)) (cond b (done_with (has_item i) x ∷ xs) (x ∷ changed_first p (done_with (has_item i)) xs))
    go true k later other =
        let same : x ≡ r = cc in
        (subst (λ y. Holds (taken_more took ts) (done_with (has_item i) y)) (sym same) (here (subst (Holds took) same all.0)), others xs (subst (λ y. AllByRecursion (IsOther y.serial) xs) same differ.0) all.1)
    go false k later other =
        (holds_same took (taken_more took ts) x (ap (λ is. took x.serial ++ is) (items x.serial ∙ ap (λ (b : Bool). cond b (i ∷ []) []) (other k)) ∙ append-nil (took x.serial)) all.0, later k)

-- ---- all that a deed may do

none_is : {A : Type 0} (o : Option A) → is_none o ≡ true → o ≡ None
none_is None e = refl
none_is (Some x) e = absurd cc

found_both : (P : Request → Type 0) (p : Request → Bool) (rs : List Request) (r : Request) → find p rs ≡ Some r → AllByRecursion P rs → P r × (p r ≡ true)
found_both P p [] r found all = absurd cc
found_both P p (x ∷ xs) r found all = elim (cases_Bool (p x)) [
  | inl on ↦ let f : Some x ≡ Some r = sym (ap (λ (b : Bool). cond b (Some x) (find p xs)) on) ∙ found in let same : x ≡ r = cc in (subst P same all.0, subst (λ y. p y ≡ true) same on)
  | inr off ↦ found_both P p xs r (sym (ap (λ (b : Bool). cond b (Some x) (find p xs)) off) ∙ found) all.1
]

-- a receive may be complete with an item, and may end with a word
item_fits : (l : Local) (asked : Asked) (i : Item) → receives_at l asked ≡ true → FitsAsked asked (Some (has_item i))
item_fits l (message_at at max) i waits = tt
item_fits l (packet_at at) i waits = tt
item_fits l (name_of n) i waits = absurd cc
item_fits l (channel_of n) i waits = absurd cc

word_fits : (l : Local) (asked : Asked) (w : Refusal) → receives_at l asked ≡ true → FitsAsked asked (Some (has_ended w))
word_fits l (message_at at max) w waits = tt
word_fits l (packet_at at) w waits = tt
word_fits l (name_of n) w waits = absurd cc
word_fits l (channel_of n) w waits = absurd cc

first_none : (p : Request → Bool) (f : Request → Request) (rs : List Request) → find p rs ≡ None → changed_first p f rs ≡ rs
first_none p f [] none = refl
first_none p f (x ∷ xs) none = go (p x) none (λ k. first_none p f xs k)
  where
    go : (b : Bool) → cond b (Some x) (find p xs) ≡ None → (find p xs ≡ None → changed_first p f xs ≡ xs) → cond b (f x ∷ xs) (x ∷ changed_first p f xs) ≡ x ∷ xs
    go true k later = absurd cc
    go false k later = ap (λ ys. x ∷ ys) (later k)

away_first : (k : ℕ) (p : Request → Bool) (o : Outcome) (rs : List Request) → AllByRecursion (IsOther k) rs → AllByRecursion (IsOther k) (changed_first p (done_with o) rs)
away_first k p o [] away = tt
away_first k p o (x ∷ xs) away = go (p x) (away_first k p o xs away.1)
  where
    go : (b : Bool) → AllByRecursion (IsOther k) (changed_first p (done_with o) xs) → AllByRecursion (IsOther k) (cond b (done_with o x ∷ xs) (x ∷ changed_first p (done_with o) xs))
    go true more = (away.0, away.1)
    go false more = (away.0, more)

module _ (took : Took) (s : DomainState) (differ : Differ s.requests) (below : Below s.requests_given s.requests) (small : s.requests_given + 1 < 2 ^ 64) (held : Held took s.requests s.requests_given) where
  next_given : (s.requests_given + 1) % 2 ^ 64 ≡ s.requests_given + 1
  next_given = mod-eq_of_lt (omega (arith, small))

  pub held_more : (rs : List Request) (ts : List Taking) (n : ℕ) → RequestsBy s rs ts n → Held (taken_more took ts) rs n
  held_more rs us n (kept ts none) = record {
    each = all_holds_same took (taken_more took ts) (more_none took ts none) s.requests held.each;
    fresh = λ k le. more_none took ts none k ∙ held.fresh k le;
  }
  held_more rs us n (turned f turns) = record {
    each = all_holds_same took (taken_more took []) (more_none took [] (λ k. refl)) (map f s.requests) (all_turned took f turns s.requests held.each);
    fresh = λ k le. more_none took [] (λ j. refl) k ∙ held.fresh k le;
  }
  held_more rs us n (gone place) = record {
    each = all_holds_same took (taken_more took []) (more_none took [] (λ k. refl)) (without place s.requests) (all_without (Holds took) place s.requests held.each);
    fresh = λ k le. more_none took [] (λ j. refl) k ∙ held.fresh k le;
  }
  held_more rs us n (given asked o ts fits items) =
      let new : Request = record { serial = s.requests_given; asked = asked; outcome = o } in
      record {
        each = all_last (Holds (taken_more took ts)) s.requests new (below_holds took s.requests_given ts (item_held o) items s.requests below held.each)
            (record { items = ap₂ (λ a b. a ++ b) (held.fresh s.requests_given (omega arith)) (items s.requests_given ∙ ap (λ (b : Bool). cond b (item_held o) []) (eq-eqb s.requests_given s.requests_given refl)); fits = fits });
        fresh = λ k le. ap₂ (λ a b. a ++ b) (held.fresh k (omega (arith, le, next_given))) (items k ∙ ap (λ (b : Bool). cond b (item_held o) []) (ne_eqb s.requests_given k (λ same. absurd (omega (arith, le, next_given, same)))));
      }
  held_more rs us n (handed at i ts none one) = go (find (waits_at at) s.requests) refl
    where
      go : (o : Option Request) → find (waits_at at) s.requests ≡ o → Held (taken_more took ts) (changed_first (waits_at at) (done_with (has_item i)) s.requests) s.requests_given
      go None is = record {
        each = subst (AllByRecursion (Holds (taken_more took ts))) (sym (first_none (waits_at at) (done_with (has_item i)) s.requests is)) (all_holds_same took (taken_more took ts) (more_none took ts (none is)) s.requests held.each);
        fresh = λ k le. more_none took ts (none is) k ∙ held.fresh k le;
      }
      go (Some r) is =
          let h = found_both (Holds took) (waits_at at) s.requests r is held.each in
          let low = found_both (λ q. q.serial < s.requests_given) (waits_at at) s.requests r is below in
          let parts = and_parts (is_none r.outcome) (receives_at at r.asked) h.1 in
          record {
            each = handed_holds took (waits_at at) i ts r (one r is) (none_is r.outcome parts.0) (item_fits at r.asked i parts.1) s.requests is differ held.each;
            fresh = λ k le. ap₂ (λ a b. a ++ b) (held.fresh k le) (one r is k ∙ ap (λ (b : Bool). cond b (i ∷ []) []) (ne_eqb r.serial k (λ same. let l : r.serial < s.requests_given = low.0 in absurd (omega (arith, le, same, l)))));
          }

  -- a serial that is done stays so
  pub done_more : (rs : List Request) (ts : List Taking) (n : ℕ) → RequestsBy s rs ts n → (k : ℕ) → IsDone took s.requests s.requests_given k → IsDone (taken_more took ts) rs n k
  done_more rs us n (kept ts none) k done = record { nothing = more_none took ts none k ∙ done.nothing; low = done.low; away = done.away }
  done_more rs us n (turned f turns) k done = record { nothing = more_none took [] (λ j. refl) k ∙ done.nothing; low = done.low; away = away_turned took k f turns s.requests held.each done.away }
  done_more rs us n (gone place) k done = record { nothing = more_none took [] (λ j. refl) k ∙ done.nothing; low = done.low; away = all_without (IsOther k) place s.requests done.away }
  done_more rs us n (given asked o ts fits items) k done =
      let other : (s.requests_given == k) ≡ false = ne_eqb s.requests_given k (λ same. let l : k < s.requests_given = done.low in absurd (omega (arith, same, l))) in
      record {
        nothing = ap₂ (λ a b. a ++ b) done.nothing (items k ∙ ap (λ (b : Bool). cond b (item_held o) []) other);
        low = let l : k < s.requests_given = done.low in omega (arith, l, next_given);
        away = all_last (IsOther k) s.requests _ done.away other;
      }
  done_more rs us n (handed at i ts none one) k done = go (find (waits_at at) s.requests) refl
    where
      away : AllByRecursion (IsOther k) (changed_first (waits_at at) (done_with (has_item i)) s.requests)
      away = away_first k (waits_at at) (has_item i) s.requests done.away

      go : (o : Option Request) → find (waits_at at) s.requests ≡ o → IsDone (taken_more took ts) (changed_first (waits_at at) (done_with (has_item i)) s.requests) s.requests_given k
      go None is = record { nothing = more_none took ts (none is) k ∙ done.nothing; low = done.low; away = away }
      go (Some r) is =
          let other = found_both (IsOther k) (waits_at at) s.requests r is done.away in
          record { nothing = ap₂ (λ a b. a ++ b) done.nothing (one r is k ∙ ap (λ (b : Bool). cond b (i ∷ []) []) other.0); low = done.low; away = away }

-- ---- what deeds do to requests

pub items_one : (k serial a : ℕ) (i : Item) → items_by k (record { request = Some serial; address = a; item = i } ∷ []) ≡ cond (serial == k) (i ∷ []) []
items_one k serial a i = go (serial == k)
  where
    go : (b : Bool) → map (λ (t : Taking). t.item) (cond b (record { request = Some serial; address = a; item = i } ∷ []) []) ≡ cond b (i ∷ []) []
    go true = refl
    go false = refl

-- those that ask so are complete, where the outcome is one for what they ask, and no item
module _ (asks : Asked → Bool) (o : Outcome) (none : item_held (Some o) ≡ []) (fits_asked : (a : Asked) → asks a ≡ true → FitsAsked a (Some o)) where
  pub done_turns : (r : Request) → FitsAsked r.asked r.outcome → Turns r (all_done asks o r)
  done_turns r fits = go (is_none r.outcome && asks r.asked) refl
    where
      go : (b : Bool) → (is_none r.outcome && asks r.asked) ≡ b → Turns r (cond b (done_with o r) r)
      go true is = let parts = and_parts (is_none r.outcome) (asks r.asked) is in inr (o, refl, none_is r.outcome parts.0, none, fits_asked r.asked parts.1)
      go false is = inl refl

names_fit : (n : EndName) (a : ℕ) (asked : Asked) → asks_for n asked ≡ true → FitsAsked asked (Some (has_address a))
names_fit n a (name_of m) h = tt
names_fit n a other h = absurd cc

pub found_turns : (n : EndName) (a : ℕ) (r : Request) → FitsAsked r.asked r.outcome → Turns r (all_done (asks_for n) (has_address a) r)
found_turns n a = done_turns (asks_for n) (has_address a) refl (names_fit n a)

-- how a request to connect is complete
abbrev pub Settles : Outcome → Type 0
Settles is_accepted = Unit {0}
Settles (is_rejected reason) = Unit {0}
Settles other = ⊥

pub settles_nothing : (o : Outcome) → Settles o → item_held (Some o) ≡ []
settles_nothing is_accepted settles = refl
settles_nothing (is_rejected reason) settles = refl
settles_nothing other settles = absurd settles

connects_fit : (n : ℕ) (o : Outcome) → Settles o → (asked : Asked) → connects_on n asked ≡ true → FitsAsked asked (Some o)
connects_fit n is_accepted settles (channel_of m) h = tt
connects_fit n (is_rejected reason) settles (channel_of m) h = tt
connects_fit n o settles (channel_of m) h = absurd settles
connects_fit n o settles other h = absurd cc

pub settled_turns : (n : ℕ) (o : Outcome) → Settles o → (r : Request) → FitsAsked r.asked r.outcome → Turns r (all_done (connects_on n) o r)
settled_turns n o settles = done_turns (connects_on n) o (settles_nothing o settles) (connects_fit n o settles)

pub ended_turns : (l : Local) (w : Refusal) (r : Request) → FitsAsked r.asked r.outcome → Turns r (cond (waits_at l r) (done_with (has_ended w) r) r)
ended_turns l w r fits = go (waits_at l r) refl
  where
    go : (b : Bool) → waits_at l r ≡ b → Turns r (cond b (done_with (has_ended w) r) r)
    go true is =
        let parts = and_parts (is_none r.outcome) (receives_at l r.asked) is in
        inr (has_ended w, refl, none_is r.outcome parts.0, refl, word_fits l r.asked w parts.1)
    go false is = inl refl

pub ended_by : (s : DomainState) (o : Option Endpoint) (w : Refusal) → RequestsBy s (ended_in o w s.requests) [] s.requests_given
ended_by s None w = kept [] (λ k. refl)
ended_by s (Some e) w = turned (λ r. cond (waits_at e.local r) (done_with (has_ended w) r) r) (ended_turns e.local w)

pub no_items : (b : Bool) → cond {A = List Item} b [] [] ≡ []
no_items true = refl
no_items false = refl
