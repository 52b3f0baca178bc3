-- The names and addresses of endpoints are apart, and where a receive waits the queue is empty. Messages are queued at endpoints
-- without a channel; at one with a channel, only what came on it.
use Rattle.std.proofs.Common.{◌≡◌, ℕ, zero, suc, ◌+◌, ◌≤◌, Bool, true, false, cond, List, [], ◌∷◌, ◌++◌, map, filter, find, drop, Option, Some, None, refl, sym, ap, ◌∙◌, subst, arith}
use Rattle.std.specs.Prelude.{◌&&◌, ◌||◌, ◌==◌, is_none, is_some}
use Rattle.std.specs.List.{AllByRecursion, list_any}
use Rattle.std.proofs.lemmas.Bool.{eqb-true, eq-eqb, ne_eqb, cond_both, and_parts}
use Rattle.mc_base.specs.Limits.{first_address}
use Rattle.mc_base.specs.declared.name.Local.{Local}
use Rattle.mc_base.specs.declared.channel.Side.TheVariants.{Sender}
use Rattle.board_model.specs.Lists.{changed_first, without, without_at}
use Rattle.board_model.specs.Choice.{best_place, without_best}
use Rattle.board_model.specs.State.{Item, ChannelEnd, Endpoint, Asked, Outcome, has_address, has_item, Request, DomainState, is_at, has_address_of, live_at, endpoint_of, receives_at, waits_at}
use Rattle.board_model.specs.Change.{Change, endpoint_made, endpoint_gone, item_queued, best_gone, oldest_gone, channel_set, queue_dropped, request_added, item_handed, waiting_ended, name_found, connect_settled, request_gone, done_with, all_done, handed_in, ended_in, with_queue, with_channel, without_queue, endpoint_with, at_address, asks_for, connects_on, changed, changed_all}
use Rattle.board_model.specs.ChannelEnds.{same_side, is_closed}
use Rattle.board_model.specs.Channels.{is_numbered, is_of_channel}
use Rattle.board_model.proofs.MessageAlls.{all-append, all-without}

-- ---- every endpoint

module _ (P Q : Endpoint → Type 0) where
  all_rest : ((e : Endpoint) → P e → Q e) → (xs : List Endpoint) → AllByRecursion P xs → AllByRecursion Q xs
  all_rest other [] a = tt
  all_rest other (x ∷ xs) a = (other x a.0, all_rest other xs a.1)

  -- the first that passes changes, and what held of the others is enough for them
  pub all_changed : (p : Endpoint → Bool) (f : Endpoint → Endpoint) → ((e : Endpoint) → P e → Q e) → (es : List Endpoint) → ((e : Endpoint) → find p es ≡ Some e → P e → Q (f e)) → AllByRecursion P es → AllByRecursion Q (changed_first p f es)
  all_changed p f other [] here all = tt
  all_changed p f other (e ∷ es) here all = go (p e) here (λ h. all_changed p f other es h all.1)
    where
      go : (b : Bool) → ((y : Endpoint) → cond b (Some e) (find p es) ≡ Some y → P y → Q (f y)) → (((y : Endpoint) → find p es ≡ Some y → P y → Q (f y)) → AllByRecursion Q (changed_first p f es)) → AllByRecursion Q (cond b (f e ∷ es) (e ∷ changed_first p f es))
      go true h more = (h e refl all.0, all_rest other es all.1)
      go false h more = (other e all.0, more h)

  pub all_weaker : ((e : Endpoint) → P e → Q e) → (es : List Endpoint) → AllByRecursion P es → AllByRecursion Q es
  all_weaker other [] a = tt
  all_weaker other (x ∷ xs) a = (other x a.0, all_weaker other xs a.1)

all_kept : (P : Endpoint → Type 0) (p : Endpoint → Bool) (es : List Endpoint) → AllByRecursion P es → AllByRecursion P (filter p es)
all_kept P p [] all = tt
all_kept P p (e ∷ es) all = cond_both (p e) (e ∷ filter p es) (filter p es) (AllByRecursion P) (λ k. (all.0, all_kept P p es all.1)) (λ k. all_kept P p es all.1)

all_more : (P : Endpoint → Type 0) (es : List Endpoint) (e : Endpoint) → AllByRecursion P es → P e → AllByRecursion P (es ++ e ∷ [])
all_more P [] e all here = (here, tt)
all_more P (x ∷ xs) e all here = (all.0, all_more P xs e all.1 here)

found_all : (P : Endpoint → Type 0) (p : Endpoint → Bool) (es : List Endpoint) (e : Endpoint) → AllByRecursion P es → find p es ≡ Some e → P e
found_all P p [] e all is = absurd cc
found_all P p (x ∷ xs) e all is = go (p x) is (λ k. found_all P p xs e all.1 k)
  where
    go : (b : Bool) → cond b (Some x) (find p xs) ≡ Some e → (find p xs ≡ Some e → P e) → P e
    go true is later = let same : x ≡ e = cc in subst P same all.0
    go false is later = later is

-- ---- addresses rise

abbrev pub Rise : ℕ → List Endpoint → ℕ → Type 0
Rise lo [] hi = lo ≤ hi
Rise lo (e ∷ es) hi = (lo ≤ e.address) × Rise (e.address + 1) es hi

pub rise_from : (lo low hi : ℕ) (es : List Endpoint) → low ≤ lo → Rise lo es hi → Rise low es hi
rise_from lo low hi [] le rise = omega arith
rise_from lo low hi (e ∷ es) le rise = let here : lo ≤ e.address = rise.0 in (omega arith, rise.1)

pub rise_changed : (p : Endpoint → Bool) (f : Endpoint → Endpoint) → ((e : Endpoint) → (f e).address ≡ e.address) → (lo hi : ℕ) (es : List Endpoint) → Rise lo es hi → Rise lo (changed_first p f es) hi
rise_changed p f same lo hi [] rise = rise
rise_changed p f same lo hi (e ∷ es) rise = cond_both (p e) (f e ∷ es) (e ∷ changed_first p f es) (λ xs. Rise lo xs hi) (λ k. rw (same e) rise) (λ k. (rise.0, rise_changed p f same (e.address + 1) hi es rise.1))

pub rise_fewer : (p : Endpoint → Bool) (lo hi : ℕ) (es : List Endpoint) → Rise lo es hi → Rise lo (filter p es) hi
rise_fewer p lo hi [] rise = rise
rise_fewer p lo hi (e ∷ es) rise = cond_both (p e) (e ∷ filter p es) (filter p es) (λ xs. Rise lo xs hi) (λ k. (rise.0, rise_fewer p (e.address + 1) hi es rise.1))
    (λ k. let here : lo ≤ e.address = rise.0 in rise_fewer p lo hi es (rise_from (e.address + 1) lo hi es (omega arith) rise.1))

pub rise_more : (lo hi : ℕ) (es : List Endpoint) (e : Endpoint) → e.address ≡ hi → Rise lo es hi → Rise lo (es ++ e ∷ []) (hi + 1)
rise_more lo hi [] e is rise = (omega arith, omega arith)
rise_more lo hi (x ∷ xs) e is rise = (rise.0, rise_more (x.address + 1) hi xs e is rise.1)

above : (p : Endpoint → Bool) (lo hi : ℕ) (es : List Endpoint) (e : Endpoint) → Rise lo es hi → find p es ≡ Some e → lo ≤ e.address
above p lo hi [] e rise is = absurd cc
above p lo hi (x ∷ xs) e rise is = go (p x) is (λ k. above p (x.address + 1) hi xs e rise.1 k)
  where
    go : (b : Bool) → cond b (Some x) (find p xs) ≡ Some e → (find p xs ≡ Some e → x.address + 1 ≤ e.address) → lo ≤ e.address
    go true is later = let same : x ≡ e = cc in rw (← same) rise.0
    go false is later = let k = later is in let here : lo ≤ x.address = rise.0 in omega arith

pub own : (p : Endpoint → Bool) (lo hi : ℕ) (es : List Endpoint) (e : Endpoint) → Rise lo es hi → find p es ≡ Some e → find (has_address_of e.address) es ≡ Some e
own p lo hi [] e rise is = absurd cc
own p lo hi (x ∷ xs) e rise is = go (p x) is (λ k. own p (x.address + 1) hi xs e rise.1 k)
  where
    go : (b : Bool) → cond b (Some x) (find p xs) ≡ Some e → (find p xs ≡ Some e → find (has_address_of e.address) xs ≡ Some e) → find (has_address_of e.address) (x ∷ xs) ≡ Some e
    go true is later = let same : x ≡ e = cc in rw (← same, eq-eqb x.address x.address refl) refl
    go false is later =
        let far : x.address + 1 ≤ e.address = above p (x.address + 1) hi xs e rise.1 is in
        rw (ne_eqb x.address e.address (λ k. absurd (omega arith))) (later is)

-- ---- names are apart

abbrev pub Apart : List Endpoint → Type 0
Apart [] = Unit {0}
Apart (e ∷ es) = AllByRecursion (λ f. is_at e.local f ≡ false) es × Apart es

pub apart_changed : (p : Endpoint → Bool) (f : Endpoint → Endpoint) → ((e : Endpoint) → (f e).local ≡ e.local) → (es : List Endpoint) → Apart es → Apart (changed_first p f es)
apart_changed p f same [] apart = tt
apart_changed p f same (e ∷ es) apart = cond_both (p e) (f e ∷ es) (e ∷ changed_first p f es) Apart (λ k. rw (same e) apart)
    (λ k. (all_changed (λ x. is_at e.local x ≡ false) (λ x. is_at e.local x ≡ false) p f (λ x a. a) es (λ x i a. rw (same x) a) apart.0, apart_changed p f same es apart.1))

pub apart_fewer : (p : Endpoint → Bool) (es : List Endpoint) → Apart es → Apart (filter p es)
apart_fewer p [] apart = tt
apart_fewer p (e ∷ es) apart = cond_both (p e) (e ∷ filter p es) (filter p es) Apart (λ k. (all_kept (λ x. is_at e.local x ≡ false) p es apart.0, apart_fewer p es apart.1)) (λ k. apart_fewer p es apart.1)

swapped : (e f : Endpoint) → is_at e.local f ≡ is_at f.local e
swapped e f = grind (arith, eqb-true, eq-eqb)

pub apart_more : (es : List Endpoint) (e : Endpoint) → Apart es → AllByRecursion (λ f. is_at e.local f ≡ false) es → Apart (es ++ e ∷ [])
apart_more [] e apart free = (tt, tt)
apart_more (x ∷ xs) e apart free = (all_more (λ f. is_at x.local f ≡ false) xs e apart.0 (swapped x e ∙ free.0), apart_more xs e apart.1 free.1)

none_named : (at : Local) (es : List Endpoint) → is_some (find (is_at at) es) ≡ false → AllByRecursion (λ f. is_at at f ≡ false) es
none_named at [] h = tt
none_named at (e ∷ es) h = go (is_at at e) refl h (λ k. none_named at es k)
  where
    go : (b : Bool) → is_at at e ≡ b → is_some (cond b (Some e) (find (is_at at) es)) ≡ false → (is_some (find (is_at at) es) ≡ false → AllByRecursion (λ f. is_at at f ≡ false) es) → (is_at at e ≡ false) × AllByRecursion (λ f. is_at at f ≡ false) es
    go true it h later = absurd cc
    go false it h later = (it, later h)

-- ---- requests that wait

abbrev pub Waits : Local → List Request → Type 0
Waits at rs = list_any (waits_at at) rs ≡ true

mapped_waits : (at : Local) (f : Request → Request) → ((r : Request) → waits_at at (f r) ≡ true → waits_at at r ≡ true) → (rs : List Request) → Waits at (map f rs) → Waits at rs
mapped_waits at f each [] h = absurd cc
mapped_waits at f each (r ∷ rs) h = go (waits_at at (f r)) refl h (λ k. mapped_waits at f each rs k)
  where
    go : (b : Bool) → waits_at at (f r) ≡ b → (b || list_any (waits_at at) (map f rs)) ≡ true → (list_any (waits_at at) (map f rs) ≡ true → list_any (waits_at at) rs ≡ true) → (waits_at at r || list_any (waits_at at) rs) ≡ true
    go true is k later = ap (λ b. b || list_any (waits_at at) rs) (each r is)
    go false is k later = elim (waits_at at r) as (λ b. (b || list_any (waits_at at) rs) ≡ true) [ true ↦ refl | false ↦ later k ]

done_waits : (at : Local) (b : Bool) (o : Outcome) (r : Request) → waits_at at (cond b (done_with o r) r) ≡ true → waits_at at r ≡ true
done_waits at true o r h = absurd cc
done_waits at false o r h = h

first_waits : (at : Local) (p : Request → Bool) (o : Outcome) (rs : List Request) → Waits at (changed_first p (done_with o) rs) → Waits at rs
first_waits at p o [] h = absurd cc
first_waits at p o (r ∷ rs) h = go (p r) h (λ k. first_waits at p o rs k)
  where
    tail_waits : Waits at rs → Waits at (r ∷ rs)
    tail_waits k = elim (waits_at at r) as (λ b. (b || list_any (waits_at at) rs) ≡ true) [ true ↦ refl | false ↦ k ]

    head_or : (b : Bool) → (b || list_any (waits_at at) (changed_first p (done_with o) rs)) ≡ true → (Waits at (changed_first p (done_with o) rs) → Waits at rs) → (b || list_any (waits_at at) rs) ≡ true
    head_or true k later = refl
    head_or false k later = later k

    go : (b : Bool) → Waits at (cond b (done_with o r ∷ rs) (r ∷ changed_first p (done_with o) rs)) → (Waits at (changed_first p (done_with o) rs) → Waits at rs) → Waits at (r ∷ rs)
    go true k later = tail_waits k
    go false k later = head_or (waits_at at r) k later

without_waits : (at : Local) (p : Option ℕ) (rs : List Request) → Waits at (without p rs) → Waits at rs
without_waits at None rs h = h
without_waits at (Some i) rs h = go i rs h
  where
    go : (i : ℕ) (rs : List Request) → Waits at (without_at i rs) → Waits at rs
    go i [] k = k
    go zero (r ∷ rs) k = elim (waits_at at r) as (λ b. (b || list_any (waits_at at) rs) ≡ true) [ true ↦ refl | false ↦ k ]
    go (suc i) (r ∷ rs) k = later (waits_at at r) k (λ h. go i rs h)
      where
        later : (b : Bool) → (b || list_any (waits_at at) (without_at i rs)) ≡ true → (Waits at (without_at i rs) → Waits at rs) → (b || list_any (waits_at at) rs) ≡ true
        later true k m = refl
        later false k m = m k

handed_waits : (at : Local) (e : Option Endpoint) (i : Item) (rs : List Request) → Waits at (handed_in e i rs) → Waits at rs
handed_waits at None i rs h = h
handed_waits at (Some e) i rs h = first_waits at (waits_at e.local) _ rs h

ended_waits : (at : Local) (e : Option Endpoint) (w : _) (rs : List Request) → Waits at (ended_in e w rs) → Waits at rs
ended_waits at None w rs h = h
ended_waits at (Some e) w rs h = mapped_waits at (λ r. cond (waits_at e.local r) (done_with _ r) r) (λ r k. done_waits at (waits_at e.local r) _ r k) rs h

-- ---- the invariant

-- where a receive waits at an endpoint nothing is queued there
abbrev pub Quiet : List Request → Endpoint → Type 0
Quiet rs e = Waits e.local rs → e.queue ≡ []

-- nothing is queued at a sender's end, and at one that is closed
abbrev pub is_mute : ChannelEnd → Bool
is_mute c = same_side c.side Sender || is_closed c.stage

abbrev pub IsMessage : Item → Type 0
IsMessage i = is_none i.channel ≡ true

abbrev pub CameOn : ChannelEnd → Item → Type 0
CameOn c i = is_of_channel c.owner c.number i ≡ true

-- it is no message
pub came-no-message : (c : ChannelEnd) (i : Item) → CameOn c i → is_none i.channel ≡ false
came-no-message c i came = go i.channel (and_parts (i.peer == c.owner) (is_numbered c.number i.channel) came).1
  where
    go : (n : Option ℕ) → is_numbered c.number n ≡ true → is_none n ≡ false
    go None is = absurd cc
    go (Some n) is = refl

-- what is queued, by the channel there
abbrev pub Bound : List Item → Option ChannelEnd → Type 0
Bound q None = AllByRecursion IsMessage q
Bound q (Some c) = (is_mute c ≡ true → q ≡ []) × AllByRecursion (CameOn c) q

abbrev pub IsBound : Endpoint → Type 0
IsBound e = Bound e.queue e.channel

-- where nothing is queued there may be any channel, or none
pub bound_empty : (q : List Item) → q ≡ [] → (c : Option ChannelEnd) → Bound q c
bound_empty q none None = subst (AllByRecursion IsMessage) (sym none) tt
bound_empty q none (Some c) = ((λ m. none), subst (AllByRecursion (CameOn c)) (sym none) tt)

-- another end of the same channel, where it is mute only if the first is
pub bound_other : (q : List Item) (c d : ChannelEnd) → d.owner ≡ c.owner → d.number ≡ c.number → (is_mute d ≡ true → is_mute c ≡ true) → Bound q (Some c) → Bound q (Some d)
bound_other q c d owner number mute bound = ((λ m. bound.0 (mute m)), subst (λ k. AllByRecursion (λ i. is_of_channel k d.number i ≡ true) q) (sym owner) (subst (λ k. AllByRecursion (λ i. is_of_channel c.owner k i ≡ true) q) (sym number) bound.1))

-- an item that may be queued where there is this channel or none
abbrev pub FitsEnd : Item → Option ChannelEnd → Type 0
FitsEnd i None = IsMessage i
FitsEnd i (Some c) = (is_mute c ≡ false) × CameOn c i

bound_more : (q : List Item) (i : Item) (c : Option ChannelEnd) → FitsEnd i c → Bound q c → Bound (q ++ i ∷ []) c
bound_more q i None fits bound = all-append IsMessage q (i ∷ []) bound (fits, tt)
bound_more q i (Some c) fits bound = ((λ m. let loud : is_mute c ≡ false = fits.0 in absurd cc), all-append (CameOn c) q (i ∷ []) bound.1 (fits.1, tt))

bound_best : (q : List Item) (c : Option ChannelEnd) → Bound q c → Bound (without_best (λ i. i.priority) q) c
bound_best q None bound = all-without IsMessage (best_place (λ i. i.priority) q) q bound
bound_best q (Some c) bound = ((λ m. ap (without_best (λ i. i.priority)) (bound.0 m)), all-without (CameOn c) (best_place (λ i. i.priority) q) q bound.1)

bound_rest : (q : List Item) (c : Option ChannelEnd) → Bound q c → Bound (drop 1 q) c
bound_rest [] c bound = bound
bound_rest (i ∷ q) None bound = bound.1
bound_rest (i ∷ q) (Some c) bound = ((λ m. ap (drop 1) (bound.0 m)), bound.1.1)

pub record Sound (s : DomainState) : Type 0 where
  pub rise : Rise first_address s.endpoints (first_address + s.endpoints_given)
  pub apart : Apart s.endpoints
  pub quiet : AllByRecursion (Quiet s.requests) s.endpoints
  pub bound : AllByRecursion IsBound s.endpoints

-- one that is asked so, and complete or not, may wait at the endpoint
abbrev pub MayAsk : Asked → Option Outcome → Endpoint → Type 0
MayAsk asked o e = is_none o && receives_at e.local asked ≡ true → e.queue ≡ []

-- what asks for no item may be asked anywhere, and so may what is complete
pub not_received : (asked : Asked) → ((l : Local) → receives_at l asked ≡ false) → (o : Option Outcome) (es : List Endpoint) → AllByRecursion (MayAsk asked o) es
not_received asked other o [] = tt
not_received asked other o (e ∷ es) = ((λ h. absurd (never (is_none o) (receives_at e.local asked) (other e.local) h)), not_received asked other o es)
  where
    never : (a b : Bool) → b ≡ false → (a && b) ≡ true → ⊥
    never true b off h = absurd cc
    never false b off h = absurd cc

pub not_waiting : (asked : Asked) (i : Item) (es : List Endpoint) → AllByRecursion (MayAsk asked (Some (has_item i))) es
not_waiting asked i [] = tt
not_waiting asked i (e ∷ es) = ((λ h. absurd cc), not_waiting asked i es)

-- what is asked where a change comes
abbrev pub FitsSound : DomainState → Change → Type 0
FitsSound s (endpoint_made at) = is_some (live_at s at) ≡ false
FitsSound s (item_queued a i) = (e : Endpoint) → endpoint_of s a ≡ Some e → (Waits e.local s.requests → ⊥) × FitsEnd i e.channel
FitsSound s (channel_set a c) = (e : Endpoint) → endpoint_of s a ≡ Some e → Bound e.queue c
FitsSound s (request_added asked o) = AllByRecursion (MayAsk asked o) s.endpoints
FitsSound s other = Unit {0}

-- ---- a request more

last_waits : (at : Local) (rs : List Request) (r : Request) → Waits at (rs ++ r ∷ []) → (waits_at at r ≡ false → Waits at rs)
last_waits at [] r h none = ap (λ b. b || false) (sym none) ∙ h
last_waits at (x ∷ xs) r h none = go (waits_at at x) h (λ k. last_waits at xs r k none)
  where
    go : (b : Bool) → (b || list_any (waits_at at) (xs ++ r ∷ [])) ≡ true → (Waits at (xs ++ r ∷ []) → Waits at xs) → (b || list_any (waits_at at) xs) ≡ true
    go true k later = refl
    go false k later = later k

module _ (s : DomainState) (asked : Asked) (o : Option Outcome) where
  abbrev one_more : List Request
  one_more = s.requests ++ record { serial = s.requests_given; asked = asked; outcome = o } ∷ []

  one_quiet : (e : Endpoint) → Quiet s.requests e → MayAsk asked o e → Quiet one_more e
  one_quiet e q here w = go (is_none o && receives_at e.local asked) refl
    where
      go : (b : Bool) → (is_none o && receives_at e.local asked) ≡ b → e.queue ≡ []
      go true is = here is
      go false is = q (last_waits e.local s.requests (record { serial = s.requests_given; asked = asked; outcome = o }) w is)

  quiets : (es : List Endpoint) → AllByRecursion (Quiet s.requests) es → AllByRecursion (MayAsk asked o) es → AllByRecursion (Quiet one_more) es
  quiets [] a b = tt
  quiets (e ∷ es) a b = (one_quiet e a.0 b.0, quiets es a.1 b.1)

module _ (s : DomainState) (sound : Sound s) where
  -- an endpoint changes, and keeps its name and address
  one_sound : (a : ℕ) (f : Endpoint → Endpoint) → ((e : Endpoint) → (f e).address ≡ e.address) → ((e : Endpoint) → (f e).local ≡ e.local) →
      ((e : Endpoint) → endpoint_of s a ≡ Some e → Quiet s.requests e → Quiet s.requests (f e)) → ((e : Endpoint) → endpoint_of s a ≡ Some e → IsBound e → IsBound (f e)) → Sound (record s { endpoints = at_address a f s.endpoints })
  one_sound a f address name quiet bound = record {
    rise = rise_changed (has_address_of a) f address first_address (first_address + s.endpoints_given) s.endpoints sound.rise;
    apart = apart_changed (has_address_of a) f name s.endpoints sound.apart;
    quiet = all_changed (Quiet s.requests) (Quiet s.requests) (has_address_of a) f (λ e q. q) s.endpoints quiet sound.quiet;
    bound = all_changed IsBound IsBound (has_address_of a) f (λ e q. q) s.endpoints bound sound.bound;
  }

  -- fewer wait
  fewer_sound : (c : Change) → ((at : Local) → Waits at (changed s c).requests → Waits at s.requests) → (changed s c).endpoints ≡ s.endpoints → (changed s c).endpoints_given ≡ s.endpoints_given → Sound (changed s c)
  fewer_sound c fewer same given = record {
    rise = subst (λ es. Rise first_address es (first_address + (changed s c).endpoints_given)) (sym same) (subst (λ n. Rise first_address s.endpoints (first_address + n)) (sym given) sound.rise);
    apart = subst Apart (sym same) sound.apart;
    quiet = subst (AllByRecursion (Quiet (changed s c).requests)) (sym same) (all_weaker (Quiet s.requests) (Quiet (changed s c).requests) (λ e q k. q (fewer e.local k)) s.endpoints sound.quiet);
    bound = subst (AllByRecursion IsBound) (sym same) sound.bound;
  }

  pub sound_change : (c : Change) → FitsSound s c → Sound (changed s c)
  sound_change (endpoint_made at) fits = record {
    rise = let next : first_address + s.endpoints_given + 1 ≡ first_address + (s.endpoints_given + 1) = omega arith in subst (Rise first_address (s.endpoints ++ endpoint_with s at ∷ [])) next (rise_more first_address (first_address + s.endpoints_given) s.endpoints (endpoint_with s at) refl sound.rise);
    apart = apart_more s.endpoints _ sound.apart (none_named at s.endpoints fits);
    quiet = all_more (Quiet s.requests) s.endpoints _ sound.quiet (λ w. refl);
    bound = all_more IsBound s.endpoints _ sound.bound tt;
  }
  sound_change (endpoint_gone a) fits = record {
    rise = rise_fewer _ first_address (first_address + s.endpoints_given) s.endpoints sound.rise;
    apart = apart_fewer _ s.endpoints sound.apart;
    quiet = all_kept (Quiet s.requests) _ s.endpoints sound.quiet;
    bound = all_kept IsBound _ s.endpoints sound.bound;
  }
  sound_change (item_queued a i) fits =
      let k = one_sound a (with_queue (λ q. q ++ i ∷ [])) (λ e. refl) (λ e. refl) (λ e is q w. absurd ((fits e is).0 w)) (λ e is b. bound_more e.queue i e.channel (fits e is).1 b) in
      record { rise = k.rise; apart = k.apart; quiet = k.quiet; bound = k.bound }
  sound_change (best_gone a) fits =
      let k = one_sound a (with_queue (without_best (λ i. i.priority))) (λ e. refl) (λ e. refl) (λ e is q w. ap (without_best (λ i. i.priority)) (q w)) (λ e is b. bound_best e.queue e.channel b) in
      record { rise = k.rise; apart = k.apart; quiet = k.quiet; bound = k.bound }
  sound_change (oldest_gone a) fits =
      let k = one_sound a (with_queue (drop 1)) (λ e. refl) (λ e. refl) (λ e is q w. ap (drop 1) (q w)) (λ e is b. bound_rest e.queue e.channel b) in
      record { rise = k.rise; apart = k.apart; quiet = k.quiet; bound = k.bound }
  sound_change (channel_set a c) fits =
      let k = one_sound a (with_channel c) (λ e. refl) (λ e. refl) (λ e is q w. q w) (λ e is b. fits e is) in
      record { rise = k.rise; apart = k.apart; quiet = k.quiet; bound = k.bound }
  sound_change (queue_dropped a c) fits =
      let k = one_sound a (without_queue c) (λ e. refl) (λ e. refl) (λ e is q w. refl) (λ e is b. bound_empty [] refl c) in
      record { rise = k.rise; apart = k.apart; quiet = k.quiet; bound = k.bound }
  sound_change (request_added asked o) fits = record { rise = sound.rise; apart = sound.apart; quiet = quiets s asked o s.endpoints sound.quiet fits; bound = sound.bound }
  sound_change (item_handed a i) fits = fewer_sound (item_handed a i) (λ at. handed_waits at (endpoint_of s a) i s.requests) refl refl
  sound_change (waiting_ended a w) fits = fewer_sound (waiting_ended a w) (λ at. ended_waits at (endpoint_of s a) w s.requests) refl refl
  sound_change (name_found n a) fits = fewer_sound (name_found n a) (λ at. mapped_waits at (all_done (asks_for n) (has_address a)) (λ r k. done_waits at _ _ r k) s.requests) refl refl
  sound_change (connect_settled n o) fits = fewer_sound (connect_settled n o) (λ at. mapped_waits at (all_done (connects_on n) o) (λ r k. done_waits at _ _ r k) s.requests) refl refl
  sound_change (request_gone p) fits = fewer_sound (request_gone p) (λ at. without_waits at p s.requests) refl refl
  sound_change other fits = fewer_sound other (λ at w. w) refl refl

  -- an endpoint that is found by its name is found by its address too
  pub sound_own : (at : Local) (e : Endpoint) → live_at s at ≡ Some e → endpoint_of s e.address ≡ Some e
  sound_own at e is = own (is_at at) first_address (first_address + s.endpoints_given) s.endpoints e sound.rise is

  -- where a receive waits nothing is queued
  pub sound_quiet : (a : ℕ) (e : Endpoint) → endpoint_of s a ≡ Some e → Waits e.local s.requests → e.queue ≡ []
  sound_quiet a e is w = found_all (Quiet s.requests) (has_address_of a) s.endpoints e sound.quiet is w

  -- what an endpoint's channel says of it
  pub sound_bound : (p : Endpoint → Bool) (e : Endpoint) → find p s.endpoints ≡ Some e → IsBound e
  sound_bound p e is = found_all IsBound p s.endpoints e sound.bound is

-- an endpoint with this name is the one that the name finds
found_named : (at : Local) (es : List Endpoint) (e : Endpoint) → Apart es → (p : Endpoint → Bool) → find p es ≡ Some e → is_at at e ≡ true → find (is_at at) es ≡ Some e
found_named at [] e apart p found same = absurd cc
found_named at (x ∷ xs) e apart p found same = go (p x) found (λ k. found_named at xs e apart.1 p k same) (λ k. found_all (λ f. is_at x.local f ≡ false) p xs e apart.0 k)
  where
    away : is_at x.local e ≡ false → is_at at x ≡ false
    away other = grind (arith, eqb-true, eq-eqb, same, other)

    go : (b : Bool) → cond b (Some x) (find p xs) ≡ Some e → (find p xs ≡ Some e → find (is_at at) xs ≡ Some e) → (find p xs ≡ Some e → is_at x.local e ≡ false) → cond (is_at at x) (Some x) (find (is_at at) xs) ≡ Some e
    go true k later other = let is : x ≡ e = cc in ap (λ (b : Bool). cond b (Some x) (find (is_at at) xs)) (subst (λ y. is_at at y ≡ true) (sym is) same) ∙ ap (λ y. Some y) is
    go false k later other = ap (λ (b : Bool). cond b (Some x) (find (is_at at) xs)) (away (other k)) ∙ later k

pub sound_named : (s : DomainState) → Sound s → (at : Local) (p : Endpoint → Bool) (e : Endpoint) → find p s.endpoints ≡ Some e → is_at at e ≡ true → live_at s at ≡ Some e
sound_named s sound at p e found same = found_named at s.endpoints e sound.apart p found same

-- where a name is that of an endpoint, whatever holds of that one holds of all with the name
pub only_at : (P : Endpoint → Type 0) (at : Local) (es : List Endpoint) (e : Endpoint) → Apart es → find (is_at at) es ≡ Some e → P e → AllByRecursion (λ f. is_at at f ≡ true → P f) es
only_at P at [] e apart found holds = tt
only_at P at (x ∷ xs) e apart found holds = go (is_at at x) refl found (λ k. only_at P at xs e apart.1 k holds)
  where
    away : (f : Endpoint) → is_at at x ≡ true → is_at x.local f ≡ false → is_at at f ≡ true → ⊥
    away f here other there = grind (arith, eqb-true, eq-eqb, here, other, there)

    others : is_at at x ≡ true → (fs : List Endpoint) → AllByRecursion (λ f. is_at x.local f ≡ false) fs → AllByRecursion (λ f. is_at at f ≡ true → P f) fs
    others here [] all = tt
    others here (f ∷ fs) all = ((λ there. absurd (away f here all.0 there)), others here fs all.1)

    go : (b : Bool) → is_at at x ≡ b → cond b (Some x) (find (is_at at) xs) ≡ Some e → (find (is_at at) xs ≡ Some e → AllByRecursion (λ f. is_at at f ≡ true → P f) xs) → (is_at at x ≡ true → P x) × AllByRecursion (λ f. is_at at f ≡ true → P f) xs
    go true here k later = let same : x ≡ e = cc in ((λ there. subst P (sym same) holds), others here xs apart.0)
    go false here k later = ((λ there. absurd cc), later k)

abbrev pub FitAllSound : DomainState → List Change → Type 0
FitAllSound s [] = Unit {0}
FitAllSound s (c ∷ cs) = FitsSound s c × FitAllSound (changed s c) cs

pub sound_changes : (s : DomainState) (cs : List Change) → FitAllSound s cs → Sound s → Sound (changed_all s cs)
sound_changes s [] fits sound = sound
sound_changes s (c ∷ cs) fits sound = sound_changes (changed s c) cs fits.1 (sound_change s sound c fits.0)
