-- Requests that wait for the same, all of which are complete at once.
use Rattle.std.proofs.Common.{◌≡◌, ℕ, zero, suc, ◌+◌, ◌≤◌, Bool, true, false, cond, List, [], ◌∷◌, ◌++◌, length, map, Option, Some, None, refl, sym, ap, ◌∙◌, subst, arith, add-one}
use Rattle.std.specs.Prelude.{is_none, slice_get, option_map, ◌&&◌, ◌==◌}
use Rattle.std.specs.List.{AllByRecursion}
use Rattle.std.proofs.lemmas.Bool.{and_parts}
use Rattle.mc_base.specs.declared.name.Local.{Local}
use Rattle.mc_base.specs.declared.name.EndName.{EndName}
use Rattle.mc_base.specs.declared.refusal.Refusal.{Refusal}
use Rattle.mc_base.specs.declared.request.RequestId.{RequestId}
use Rattle.mc_base.specs.declared.request.Slot.{Slot}
use Rattle.board_model.specs.State.{Request, has_ended, Asked}
use Rattle.board_model.specs.Change.{asks_for, all_done, connects_on}
use Rattle.domain_parts.specs.PlacedFrames.{found_for}
use Rattle.domain_parts.specs.PlacedCalls.{ended_by_word}
use Rattle.buffer_book.specs.Book.{AllDiffer, Book}
use Rattle.request_set.specs.declared.ask.Ask.{Ask}
use Rattle.request_set.specs.declared.ask.Ask.TheVariants as ask
use Rattle.request_set.specs.declared.ask.Complete.{Complete}
use Rattle.request_set.specs.declared.ask.Complete.TheVariants as complete
use Rattle.request_set.specs.Requests.{Requests, Standing, completed, is_id}
use Rattle.domain_parts.specs.declared.requests.Waiters.{Waiters}
use Rattle.domain_parts.specs.declared.requests.Waiters.TheVariants as waiters
use Rattle.domain_parts.specs.InBook.{asked_in, outcome_in, request_in, requests_in}
use Rattle.domain_parts.specs.InRequests.{AreReceives, IsReceive, MayEnd, Receives, completed_with, handed_slots, is_among, slots_in, with_all_complete}
use Rattle.domain_parts.proofs.Handed.{Listing, listing, none-listed, none-past}
use Rattle.domain_parts.proofs.Receives.{complete_now, id-stays, itself, keys_in, none-map, other-key, others-of, others-stay, waits-map}

-- ---- one after the other

-- the first ones are done
abbrev pub so_far : (Standing → Standing) → ℕ → List Standing → List Standing
so_far f zero rs = rs
so_far f (suc k) [] = []
so_far f (suc k) (r ∷ rs) = f r ∷ so_far f k rs

pub get-so_far : (f : Standing → Standing) (k : ℕ) (rs : List Standing) → slice_get (so_far f k rs) k ≡ slice_get rs k
get-so_far f zero rs = refl
get-so_far f (suc k) [] = refl
get-so_far f (suc k) (r ∷ rs) = get-so_far f k rs

one-stays : (f : Standing → Standing) (k : ℕ) (r : Standing) (rs : List Standing) → slice_get rs k ≡ Some r → f r ≡ r → so_far f k rs ≡ so_far f (suc k) rs
one-stays f zero r [] there same = absurd cc
one-stays f zero r (x ∷ rs) there same = let is : x ≡ r = cc in ap (λ (y : Standing). y ∷ rs) (is ∙ sym same ∙ ap f (sym is))
one-stays f (suc k) r [] there same = absurd cc
one-stays f (suc k) r (x ∷ rs) there same = ap (λ (ys : List Standing). f x ∷ ys) (one-stays f k r rs there same)

key-there : (n k : ℕ) (r : Standing) (rs : List Standing) → slice_get rs k ≡ Some r → AllByRecursion (λ m. (m == n) ≡ false) (keys_in rs) → (r.id.key == n) ≡ false
key-there n zero r [] there all = absurd cc
key-there n zero r (x ∷ rs) there all = let is : x ≡ r = cc in subst (λ (y : Standing). (y.id.key == n) ≡ false) is all.0
key-there n (suc k) r [] there all = absurd cc
key-there n (suc k) r (x ∷ rs) there all = key-there n k r rs there all.1

turned : (m n : ℕ) → (m == n) ≡ false → (n == m) ≡ false
turned m n e = grind (arith, e)

one-done : (f : Standing → Standing) (how : Complete) (k : ℕ) (r : Standing) (rs : List Standing) → ((x : Standing) → (f x).id ≡ x.id) → slice_get rs k ≡ Some r → f r ≡ complete_now how r → AllDiffer (keys_in rs) → map (completed r.id how) (so_far f k rs) ≡ so_far f (suc k) rs
one-done f how zero r [] ids there same differ = absurd cc
one-done f how zero r (x ∷ rs) ids there same differ =
    let is : x ≡ r = cc in
    let own : is_id r.id x ≡ true = subst (λ (y : Standing). is_id r.id y ≡ true) (sym is) (itself r) in
    ap (λ (b : Bool). cond b (complete_now how x) x ∷ map (completed r.id how) rs) own
    ∙ ap (λ (y : Standing). y ∷ map (completed r.id how) rs) (ap (complete_now how) is ∙ sym same ∙ ap f (sym is))
    ∙ ap (λ (ys : List Standing). f x ∷ ys) (others-stay r.id how rs (others-of r.id x rs differ own))
one-done f how (suc k) r [] ids there same differ = absurd cc
one-done f how (suc k) r (x ∷ rs) ids there same differ =
    let apart : ((f x).id.key == r.id.key) ≡ false = ap (λ (i : RequestId). i.key == r.id.key) (ids x) ∙ turned r.id.key x.id.key (key-there x.id.key k r rs there differ.0) in
    ap (λ (b : Bool). cond b (complete_now how (f x)) (f x) ∷ map (completed r.id how) (so_far f k rs)) (other-key r.id (f x) apart)
    ∙ ap (λ (ys : List Standing). f x ∷ ys) (one-done f how k r rs ids there same differ.1)

pub all-so_far : (f : Standing → Standing) (k : ℕ) (rs : List Standing) → length rs ≤ k → so_far f k rs ≡ map f rs
all-so_far f zero [] le = refl
all-so_far f zero (r ∷ rs) le = absurd (omega (arith, le))
all-so_far f (suc k) [] le = refl
all-so_far f (suc k) (r ∷ rs) le = ap (λ (xs : List Standing). f r ∷ xs) (all-so_far f k rs (omega (arith, le)))

pub id-of : (who : Waiters) (how : Complete) (r : Standing) → (completed_with who how r).id ≡ r.id
id-of who how r = id-stays (is_none r.complete && is_among who r.ask) how r

-- ---- the request at a place, as it is told

abbrev has_none : Waiters → Standing → Bool
has_none who r = is_none r.complete && is_among who r.ask

told-there : (o : Option Standing) (t : Listing) → Some t ≡ option_map listing o → (r : Standing) × (o ≡ Some r) × (listing r ≡ t)
told-there None t e = absurd cc
told-there (Some r) t e = (r, refl, cc)

module _ (q : Requests) (who : Waiters) (how : Complete) (receives : AreReceives q) (k : ℕ) (now : Requests) (id : RequestId) (a : Ask) (o : Option Complete)
    (so : now ≡ record q { standing = so_far (completed_with who how) k q.standing }) (told : Some (id, a, o) ≡ option_map listing (slice_get now.standing k)) where
  abbrev f : Standing → Standing
  f = completed_with who how

  there : (r : Standing) × (slice_get q.standing k ≡ Some r) × (listing r ≡ (id, a, o))
  there = told-there (slice_get q.standing k) (id, a, o) (told ∙ ap (λ (x : Requests). option_map listing (slice_get x.standing k)) so ∙ ap (option_map listing) (get-so_far f k q.standing))

  is-has : (is_none o && is_among who a) ≡ has_none who there.0
  is-has = ap (λ (t : Listing). is_none t.2 && is_among who t.1) (sym there.2)

  pub next-done : (is_none o && is_among who a) ≡ true → (new : Requests) → new ≡ record now { standing = map (completed id how) now.standing } → new ≡ record q { standing = so_far f (k + 1) q.standing }
  next-done has new is =
      let r = there.0 in
      let same : f r ≡ complete_now how r = ap (λ (b : Bool). cond b (complete_now how r) r) (sym is-has ∙ has) in
      let done = one-done f how k r q.standing (id-of who how) there.1 same receives.differ in
      is
      ∙ ap (λ (x : Requests). record x { standing = map (completed id how) x.standing }) so
      ∙ ap (λ (i : RequestId). record q { standing = map (completed i how) (so_far f k q.standing) }) (ap (λ (t : Listing). t.0) (sym there.2))
      ∙ ap (λ (xs : List Standing). record q { standing = xs }) (rw add-one done)

  pub next-stays : (is_none o && is_among who a) ≡ false → now ≡ record q { standing = so_far f (k + 1) q.standing }
  next-stays has =
      let r = there.0 in
      let same : f r ≡ r = ap (λ (b : Bool). cond b (complete_now how r) r) (sym is-has ∙ has) in
      so ∙ ap (λ (xs : List Standing). record q { standing = xs }) (rw add-one (one-stays f k r q.standing there.1 same))

-- no request stands at the place or behind it
pub none-more : (q : Requests) (who : Waiters) (how : Complete) (k : ℕ) (now : Requests) → now ≡ record q { standing = so_far (completed_with who how) k q.standing } → None ≡ option_map listing (slice_get now.standing k) → now ≡ with_all_complete q who how
none-more q who how k now so none =
    let gone : None ≡ option_map listing (slice_get q.standing k) = none ∙ ap (λ (x : Requests). option_map listing (slice_get x.standing k)) so ∙ ap (option_map listing) (get-so_far (completed_with who how) k q.standing) in
    so ∙ ap (λ (xs : List Standing). record q { standing = xs }) (all-so_far (completed_with who how) k q.standing (none-past q.standing k (none-listed (slice_get q.standing k) gone)))

-- ---- what stays

pub ids-all : (who : Waiters) (how : Complete) (rs : List Standing) → map (λ (r : Standing). r.id) (map (completed_with who how) rs) ≡ map (λ (r : Standing). r.id) rs
ids-all who how [] = refl
ids-all who how (r ∷ rs) =
    ap (λ (i : RequestId). i ∷ map (λ (x : Standing). x.id) (map (completed_with who how) rs)) (id-of who how r)
    ∙ ap (λ (is : List RequestId). r.id ∷ is) (ids-all who how rs)

keys-all : (who : Waiters) (how : Complete) (rs : List Standing) → keys_in (map (completed_with who how) rs) ≡ keys_in rs
keys-all who how [] = refl
keys-all who how (r ∷ rs) =
    ap (λ (i : RequestId). i.key ∷ keys_in (map (completed_with who how) rs)) (id-of who how r)
    ∙ ap (λ (ks : List ℕ). r.id.key ∷ ks) (keys-all who how rs)

length-all_complete : (who : Waiters) (how : Complete) (rs : List Standing) → length (map (completed_with who how) rs) ≡ length rs
length-all_complete who how [] = refl
length-all_complete who how (r ∷ rs) = ap suc (length-all_complete who how rs)

may : (who : Waiters) (how : Complete) (a : Ask) (o : Option Complete) → MayEnd who how → is_among who a ≡ true → Receives a o → Receives a (Some how)
may (waiters.Lookups name) (complete.Address address) (ask.Lookup other) o ends among is = tt
may (waiters.Lookups name) (complete.Address address) (ask.Connect channel) o ends among is = absurd cc
may (waiters.Lookups name) (complete.Address address) (ask.Message at max) o ends among is = absurd cc
may (waiters.Lookups name) (complete.Address address) (ask.Packet at) o ends among is = absurd cc
may (waiters.Lookups name) complete.Accepted a o ends among is = absurd ends
may (waiters.Lookups name) (complete.Rejected reason) a o ends among is = absurd ends
may (waiters.Lookups name) (complete.Message slot max) a o ends among is = absurd ends
may (waiters.Lookups name) (complete.Packet slot) a o ends among is = absurd ends
may (waiters.Lookups name) (complete.Ended word) a o ends among is = absurd ends
may (waiters.Receives local) (complete.Ended word) (ask.Lookup other) o ends among is = absurd cc
may (waiters.Receives local) (complete.Ended word) (ask.Connect channel) o ends among is = absurd cc
may (waiters.Receives local) (complete.Ended word) (ask.Message at max) o ends among is = tt
may (waiters.Receives local) (complete.Ended word) (ask.Packet at) o ends among is = tt
may (waiters.Receives local) (complete.Address address) a o ends among is = absurd ends
may (waiters.Receives local) complete.Accepted a o ends among is = absurd ends
may (waiters.Receives local) (complete.Rejected reason) a o ends among is = absurd ends
may (waiters.Receives local) (complete.Message slot max) a o ends among is = absurd ends
may (waiters.Receives local) (complete.Packet slot) a o ends among is = absurd ends
may (waiters.Connects number) complete.Accepted (ask.Connect channel) o ends among is = tt
may (waiters.Connects number) complete.Accepted (ask.Lookup other) o ends among is = absurd cc
may (waiters.Connects number) complete.Accepted (ask.Message at max) o ends among is = absurd cc
may (waiters.Connects number) complete.Accepted (ask.Packet at) o ends among is = absurd cc
may (waiters.Connects number) (complete.Rejected reason) (ask.Connect channel) o ends among is = tt
may (waiters.Connects number) (complete.Rejected reason) (ask.Lookup other) o ends among is = absurd cc
may (waiters.Connects number) (complete.Rejected reason) (ask.Message at max) o ends among is = absurd cc
may (waiters.Connects number) (complete.Rejected reason) (ask.Packet at) o ends among is = absurd cc
may (waiters.Connects number) (complete.Address address) a o ends among is = absurd ends
may (waiters.Connects number) (complete.Message slot max) a o ends among is = absurd ends
may (waiters.Connects number) (complete.Packet slot) a o ends among is = absurd ends
may (waiters.Connects number) (complete.Ended word) a o ends among is = absurd ends

holds-none : (who : Waiters) (how : Complete) → MayEnd who how → slots_in (Some how) ≡ []
holds-none (waiters.Lookups name) (complete.Address address) ends = refl
holds-none (waiters.Lookups name) complete.Accepted ends = absurd ends
holds-none (waiters.Lookups name) (complete.Rejected reason) ends = absurd ends
holds-none (waiters.Lookups name) (complete.Message slot max) ends = absurd ends
holds-none (waiters.Lookups name) (complete.Packet slot) ends = absurd ends
holds-none (waiters.Lookups name) (complete.Ended word) ends = absurd ends
holds-none (waiters.Receives local) (complete.Ended word) ends = refl
holds-none (waiters.Receives local) (complete.Address address) ends = absurd ends
holds-none (waiters.Receives local) complete.Accepted ends = absurd ends
holds-none (waiters.Receives local) (complete.Rejected reason) ends = absurd ends
holds-none (waiters.Receives local) (complete.Message slot max) ends = absurd ends
holds-none (waiters.Receives local) (complete.Packet slot) ends = absurd ends
holds-none (waiters.Connects number) complete.Accepted ends = refl
holds-none (waiters.Connects number) (complete.Rejected reason) ends = refl
holds-none (waiters.Connects number) (complete.Address address) ends = absurd ends
holds-none (waiters.Connects number) (complete.Message slot max) ends = absurd ends
holds-none (waiters.Connects number) (complete.Packet slot) ends = absurd ends
holds-none (waiters.Connects number) (complete.Ended word) ends = absurd ends

one-receives : (who : Waiters) (how : Complete) (r : Standing) → MayEnd who how → IsReceive r → IsReceive (completed_with who how r)
one-receives who how r ends is = go (has_none who r) refl
  where
    go : (b : Bool) → has_none who r ≡ b → IsReceive (cond b (complete_now how r) r)
    go true has = may who how r.ask r.complete ends (and_parts (is_none r.complete) (is_among who r.ask) has).1 is
    go false has = is

each-all : (who : Waiters) (how : Complete) (rs : List Standing) → MayEnd who how → AllByRecursion IsReceive rs → AllByRecursion IsReceive (map (completed_with who how) rs)
each-all who how [] ends each = tt
each-all who how (r ∷ rs) ends each = (one-receives who how r ends each.0, each-all who how rs ends each.1)

pub receives-all : (q : Requests) (who : Waiters) (how : Complete) → MayEnd who how → AreReceives q → AreReceives (with_all_complete q who how)
receives-all q who how ends receives = record {
  each = each-all who how q.standing ends receives.each;
  differ = subst AllDiffer (sym (keys-all who how q.standing)) receives.differ;
  few = let few = receives.few in let same = length-all_complete who how q.standing in omega (arith, few, same);
}

-- no message is handed
one-holds : (how : Complete) (b : Bool) (r : Standing) (o : Option Complete) → r.complete ≡ o → slots_in (Some how) ≡ [] → slots_in (cond (is_none o && b) (complete_now how r) r).complete ≡ slots_in o
one-holds how true r None e none = none
one-holds how false r None e none = ap slots_in e
one-holds how b r (Some c) e none = ap slots_in e

pub handed-all : (who : Waiters) (how : Complete) (rs : List Standing) → MayEnd who how → handed_slots (map (completed_with who how) rs) ≡ handed_slots rs
handed-all who how [] ends = refl
handed-all who how (r ∷ rs) ends =
    ap (λ (ss : List Slot). ss ++ handed_slots (map (completed_with who how) rs)) (one-holds how (is_among who r.ask) r r.complete refl (holds-none who how ends))
    ∙ ap (λ (ss : List Slot). slots_in r.complete ++ ss) (handed-all who how rs ends)

-- ---- as the definitions tell it

asks-map : (n : EndName) (a : Ask) → asks_for n (asked_in a) ≡ is_among (waiters.Lookups n) a
asks-map n (ask.Lookup name) = refl
asks-map n (ask.Connect channel) = refl
asks-map n (ask.Message at max) = refl
asks-map n (ask.Packet at) = refl

connects-map : (n : ℕ) (a : Ask) → connects_on n (asked_in a) ≡ is_among (waiters.Connects n) a
connects-map n (ask.Lookup name) = refl
connects-map n (ask.Connect channel) = refl
connects-map n (ask.Message at max) = refl
connects-map n (ask.Packet at) = refl

-- pending requests that ask so are complete
module _ (b : Book) (who : Waiters) (how : Complete) (asks : Asked → Bool) (same : (a : Ask) → asks (asked_in a) ≡ is_among who a) where
  one-done_with : (r : Standing) → request_in b (completed_with who how r) ≡ all_done asks (outcome_in b how) (request_in b r)
  one-done_with r =
      by (has_none who r)
      ∙ ap (λ (x : Bool). cond (x && is_among who r.ask) (record (request_in b r) { outcome = Some (outcome_in b how) }) (request_in b r)) (sym (none-map b r.complete))
      ∙ ap (λ (x : Bool). cond (is_none (option_map (outcome_in b) r.complete) && x) (record (request_in b r) { outcome = Some (outcome_in b how) }) (request_in b r)) (sym (same r.ask))
    where
      by : (x : Bool) → request_in b (cond x (complete_now how r) r) ≡ cond x (record (request_in b r) { outcome = Some (outcome_in b how) }) (request_in b r)
      by true = refl
      by false = refl

  requests-done : (rs : List Standing) → requests_in b (map (completed_with who how) rs) ≡ map (all_done asks (outcome_in b how)) (requests_in b rs)
  requests-done [] = refl
  requests-done (r ∷ rs) =
      ap (λ (x : Request). x ∷ requests_in b (map (completed_with who how) rs)) (one-done_with r)
      ∙ ap (λ (xs : List Request). all_done asks (outcome_in b how) (request_in b r) ∷ xs) (requests-done rs)

pub requests-found : (b : Book) (n : EndName) (address : ℕ) (rs : List Standing) → requests_in b (map (completed_with (waiters.Lookups n) (complete.Address address)) rs) ≡ map (found_for n address) (requests_in b rs)
requests-found b n address = requests-done b (waiters.Lookups n) (complete.Address address) (asks_for n) (asks-map n)

pub requests-settled : (b : Book) (n : ℕ) (how : Complete) (rs : List Standing) → requests_in b (map (completed_with (waiters.Connects n) how) rs) ≡ map (all_done (connects_on n) (outcome_in b how)) (requests_in b rs)
requests-settled b n how = requests-done b (waiters.Connects n) how (connects_on n) (connects-map n)

one-ended : (b : Book) (word : Refusal) (at : Local) (r : Standing) → request_in b (completed_with (waiters.Receives at) (complete.Ended word) r) ≡ ended_by_word word at (request_in b r)
one-ended b word at r =
    by (has_none (waiters.Receives at) r)
    ∙ ap (λ (x : Bool). cond x (record (request_in b r) { outcome = Some (has_ended word) }) (request_in b r)) (sym (waits-map b at r))
  where
    by : (x : Bool) → request_in b (cond x (complete_now (complete.Ended word) r) r) ≡ cond x (record (request_in b r) { outcome = Some (has_ended word) }) (request_in b r)
    by true = refl
    by false = refl

pub requests-ended : (b : Book) (word : Refusal) (at : Local) (rs : List Standing) → requests_in b (map (completed_with (waiters.Receives at) (complete.Ended word)) rs) ≡ map (ended_by_word word at) (requests_in b rs)
requests-ended b word at [] = refl
requests-ended b word at (r ∷ rs) =
    ap (λ (x : Request). x ∷ requests_in b (map (completed_with (waiters.Receives at) (complete.Ended word)) rs)) (one-ended b word at r)
    ∙ ap (λ (xs : List Request). ended_by_word word at (request_in b r) ∷ xs) (requests-ended b word at rs)
