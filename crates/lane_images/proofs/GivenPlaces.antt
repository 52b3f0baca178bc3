-- The buffers that deeds give back to a peer are those of the frames at the places that they name.
use Rattle.std.proofs.Common.{◌≡◌, ℕ, zero, suc, ◌+◌, ◌<◌, Bool, true, false, cond, List, [], ◌∷◌, ◌++◌, length, map, Some, refl, ap, ap₂, sym, ◌∙◌, subst, arith, length-append, eqb-true, eq-eqb}
use Rattle.std.specs.Prelude.{◌==◌, filter, not, slice_get, None, Option}
use Rattle.std.specs.List.{AllByRecursion, flat_map}
use mathlib.Core.Logic.{dite}
use native.Mathlib.Decide.{dec_lt}
use Rattle.mc_base.specs.declared.fate.Fate.{Fate}
use Rattle.lane_end.specs.ReceiveMoves.{ReceiveMove, Looked, Took, Gave}
use Rattle.board_model.specs.CallChanges.{call_changes, returned}
use Rattle.board_model.specs.Change.{changed, held_as}
use Rattle.board_model.specs.Dealing.{keeps_buffer}
use Rattle.board_model.specs.Deeds.{Deed, looks_back, puts_owed, looks_ahead, takes, calls, taken_change, after_deed, along}
use Rattle.board_model.specs.JournalDeeds.{deeds_of, opened}
use Rattle.board_model.specs.Parts.{Came, coming_from, came_from, said_from, named_so, names_before, names_ended, held_if, held_by}
use Rattle.board_model.specs.State.{DomainState, HeldFrame, Item, Part, is_from, frames_from, holds_from, held_of}
use Rattle.board_model.specs.Renamed.{renamed}
use Rattle.board_model.specs.Returns.{given_at_once, given_by_frame, names_given}
use Rattle.board_model.specs.TakenFrames.{row_from}
use Rattle.board_model.proofs.RenamedDeeds.{deed-renamed, renamed_deed}
use Rattle.board_model.proofs.RenamedGiven.{returned-renamed}
use Rattle.board_model.proofs.DeedRuns.{taken_by, count_taken, IsNamed, AreNamed}
use Rattle.board_model.proofs.DeedTraffic.{count-join}
use Rattle.board_model.proofs.ItemsHeld.{Held, BringsItems, deed-holds, held-weaker, returned-holds}
use Rattle.board_model.proofs.LaneRows.{item-frames, item-peer}
use Rattle.board_model.proofs.LaneTakes.{held-kept}
use Rattle.board_model.proofs.MessageAlls.{all-append, all-filter, all-weaken}
use Rattle.board_model.proofs.PartRuns.{calls_so, row_so}
use Rattle.board_model.proofs.RunDeeds.{deeds_run}
use Rattle.lane_images.specs.DeedMoves.{deed_moves, giving, taking, unlooked}
use Rattle.lane_images.specs.GivesAt.{GivesAt}
use Rattle.lane_images.specs.PlacesGiven.{PlacesAreGiven}
use Rattle.lane_images.proofs.Fronts.{get-more}
use Rattle.lane_images.proofs.Numbering.{name_at, renamed-are}
use Rattle.lane_images.proofs.NewNames.{frames-renamed, given-renamed, new_name, same-names}

-- ---- looks give nothing back

gives-unlooked : (taken places : List ℕ) (ms : List ReceiveMove) → GivesAt taken places (unlooked ms) → GivesAt taken places ms
gives-unlooked taken places [] g = g
gives-unlooked taken places (Looked n ∷ ms) g = gives-unlooked taken places ms g
gives-unlooked taken places (Took n frame ∷ ms) g = gives-unlooked (taken ++ n ∷ []) places ms g
gives-unlooked taken [] (Gave n ∷ ms) g = absurd g
gives-unlooked taken (place ∷ places) (Gave n ∷ ms) g = (g.0, gives-unlooked taken places ms g.1)

-- ---- the frames of what is held were taken

abbrev Below : List Deed → Item → Type 0
Below before i = AllByRecursion (λ n. n < count_taken i.peer before) i.frames

count-more : (p : ℕ) (before : List Deed) (d : Deed) → count_taken p (before ++ d ∷ []) ≡ count_taken p before + taken_by p d
count-more p before d = let j = count-join p before (d ∷ []) in omega (arith, j)

later-below : (before : List Deed) (d : Deed) (i : Item) → Below before i → Below (before ++ d ∷ []) i
later-below before d i below = all-weaken (λ n. n < count_taken i.peer before) (λ n. n < count_taken i.peer (before ++ d ∷ [])) (λ n l. let c = count-more i.peer before d in omega (arith, l, c)) i.frames below

-- of what is held in an open part
abbrev IsTaken : List Deed → HeldFrame → Type 0
IsTaken before h = h.name < count_taken h.peer before

later-taken : (before : List Deed) (d : Deed) (h : HeldFrame) → IsTaken before h → IsTaken (before ++ d ∷ []) h
later-taken before d h taken = let c = count-more h.peer before d in omega (arith, taken, c)

record Kept (before : List Deed) (t : DomainState) : Type 0 where
  items : Held (Below before) t
  parts : AllByRecursion (IsTaken before) t.held

-- the names are of frames that were taken from the peer
abbrev AreTaken : ℕ → List Deed → List ℕ → Type 0
AreTaken peer before names = AllByRecursion (λ n. n < count_taken peer before) names

held-taken : (peer : ℕ) (before : List Deed) (hs : List HeldFrame) → AllByRecursion (IsTaken before) hs → AreTaken peer before (map (λ h. h.name) (filter (holds_from peer) hs))
held-taken peer before [] all = tt
held-taken peer before (h ∷ hs) all = go (h.peer == peer) refl (held-taken peer before hs all.1)
  where
    go : (b : Bool) → (h.peer == peer) ≡ b → AreTaken peer before (map (λ x. x.name) (filter (holds_from peer) hs)) → AreTaken peer before (map (λ x. x.name) (cond b (h ∷ filter (holds_from peer) hs) (filter (holds_from peer) hs)))
    go true same rest = (subst (λ (p : ℕ). h.name < count_taken p before) (eqb-true h.peer peer same) all.0, rest)
    go false same rest = rest

module _ (before : List Deed) (t : DomainState) (p : ℕ) (name : Option ℕ) (frame : List ℕ) (word : Fate) (named : IsNamed before (takes p name frame word)) (kept : Kept before t) where
  abbrev after : List Deed
  after = before ++ takes p name frame word ∷ []

  one-more : count_taken p after ≡ count_taken p before + 1
  one-more = let c = count-more p before (takes p name frame word) in let one = ap (λ (b : Bool). cond {A = ℕ} b 1 0) (eq-eqb p p refl) in omega (arith, c, one)

  parts-taken : AreTaken p after (held_of t p)
  parts-taken = all-weaken (λ n. n < count_taken p before) (λ n. n < count_taken p after) (λ n l. omega (arith, l, one-more)) (held_of t p) (held-taken p before t.held kept.parts)

  before-taken : (joins : Bool) → AreTaken p after (names_before joins (held_of t p))
  before-taken true = parts-taken
  before-taken false = tt

  ended-taken : (joins : Bool) → AreTaken p after (names_ended joins (held_of t p))
  ended-taken true = tt
  ended-taken false = parts-taken

  came-taken : AreTaken p after (came_from t p name frame).names
  came-taken =
      all-append (λ n. n < count_taken p after) (names_before (coming_from t p frame).joins (held_of t p)) (named_so name ∷ []) (before-taken (coming_from t p frame).joins)
      (let is : named_so name ≡ count_taken p before = ap named_so named in omega (arith, is, one-more), tt)

  given-taken : AreTaken p after (given_by_frame t p name frame word)
  given-taken =
      all-append (λ n. n < count_taken p after) (names_ended (coming_from t p frame).joins (held_of t p)) (given_at_once word (came_from t p name frame).names) (ended-taken (coming_from t p frame).joins)
      (once (keeps_buffer word))
    where
      once : (b : Bool) → AreTaken p after (cond b [] (came_from t p name frame).names)
      once true = tt
      once false = came-taken

  open-taken : (o : Option Part) → AllByRecursion (IsTaken after) (map (held_as p) (held_if o (came_from t p name frame).names))
  open-taken None = tt
  open-taken (Some part) = go (came_from t p name frame).names came-taken
    where
      go : (ns : List ℕ) → AreTaken p after ns → AllByRecursion (IsTaken after) (map (held_as p) ns)
      go [] all = tt
      go (n ∷ ns) all = (all.0, go ns all.1)

  take-brings : BringsItems (Below after) t (takes p name frame word)
  take-brings source l =
      let c : Came = came_from t p name frame in
      subst (λ (x : ℕ × List ℕ). AreTaken x.0 after x.1) (λ i. (sym (item-peer p c source l) i, sym (item-frames p c source l) i)) came-taken

  take-parts : AllByRecursion (IsTaken after) (after_deed t (takes p name frame word)).held
  take-parts =
      let c : Came = came_from t p name frame in
      subst (AllByRecursion (IsTaken after)) (sym (held-kept (changed t (taken_change p c)) (row_from t p name frame).happens (row_so t p c (said_from t p frame))))
      (all-append (IsTaken after) (filter (λ h. not (holds_from p h)) t.held) (map (held_as p) (held_by c))
      (all-filter (IsTaken after) (λ h. not (holds_from p h)) t.held (all-weaken (IsTaken before) (IsTaken after) (later-taken before (takes p name frame word)) t.held kept.parts)) (open-taken c.part))

brings-below : (before : List Deed) (t : DomainState) (d : Deed) → IsNamed before d → Kept before t → BringsItems (Below (before ++ d ∷ [])) t d
brings-below before t (looks_back p c) named kept = tt
brings-below before t (puts_owed p f) named kept = tt
brings-below before t (looks_ahead p c) named kept = tt
brings-below before t (calls node call a) named kept = tt
brings-below before t (takes p name frame word) named kept = take-brings before t p name frame word named kept

parts-next : (before : List Deed) (d : Deed) (t : DomainState) → IsNamed before d → Kept before t → AllByRecursion (IsTaken (before ++ d ∷ [])) (after_deed t d).held
parts-next before (takes p name frame word) t named kept = take-parts before t p name frame word named kept
parts-next before (calls node call a) t named kept =
    subst (AllByRecursion (IsTaken (before ++ calls node call a ∷ []))) (sym (held-kept t (call_changes t node call) (calls_so t node call)))
    (all-weaken (IsTaken before) (IsTaken (before ++ calls node call a ∷ [])) (later-taken before (calls node call a)) t.held kept.parts)
parts-next before (looks_back p c) t named kept = all-weaken (IsTaken before) (IsTaken (before ++ looks_back p c ∷ [])) (later-taken before (looks_back p c)) t.held kept.parts
parts-next before (puts_owed p f) t named kept = all-weaken (IsTaken before) (IsTaken (before ++ puts_owed p f ∷ [])) (later-taken before (puts_owed p f)) t.held kept.parts
parts-next before (looks_ahead p c) t named kept = all-weaken (IsTaken before) (IsTaken (before ++ looks_ahead p c ∷ [])) (later-taken before (looks_ahead p c)) t.held kept.parts

kept-next : (before : List Deed) (d : Deed) (t : DomainState) → IsNamed before d → Kept before t → Kept (before ++ d ∷ []) (after_deed t d)
kept-next before d t named kept = record {
  items = deed-holds (Below (before ++ d ∷ [])) t d (brings-below before t d named kept) (held-weaker (Below before) (Below (before ++ d ∷ [])) (later-below before d) t kept.items);
  parts = parts-next before d t named kept;
}

frames-below : (peer : ℕ) (before : List Deed) (items : List Item) → AllByRecursion (Below before) items → AllByRecursion (λ n. n < count_taken peer before) (frames_from peer items)
frames-below peer before [] all = tt
frames-below peer before (i ∷ items) all = go (i.peer == peer) refl (frames-below peer before items all.1)
  where
    go : (b : Bool) → (i.peer == peer) ≡ b → AllByRecursion (λ n. n < count_taken peer before) (frames_from peer items) → AllByRecursion (λ n. n < count_taken peer before) (flat_map (λ (x : Item). x.frames) (cond b (i ∷ filter (is_from peer) items) (filter (is_from peer) items)))
    go true same rest =
        all-append (λ n. n < count_taken peer before) i.frames (frames_from peer items) (subst (λ (p : ℕ). AllByRecursion (λ n. n < count_taken p before) i.frames) (eqb-true i.peer peer same) all.0)
        rest
    go false same rest = rest

-- ---- deeds

get-last : (xs : List ℕ) (x k : ℕ) → length xs ≡ k → slice_get (xs ++ x ∷ []) k ≡ Some x
get-last [] x zero e = refl
get-last [] x (suc k) e = absurd (omega (arith, e))
get-last (y ∷ xs) x zero e = absurd (omega (arith, e))
get-last (y ∷ xs) x (suc k) e = get-last xs x k (omega (arith, e))

module _ (g : ℕ → ℕ → ℕ) (peer : ℕ) where
  -- the frames taken are in the buffers of their names
  abbrev Named : List ℕ → Type 0
  Named taken = (k : ℕ) → k < length taken → slice_get taken k ≡ Some (g peer k)

  named-more : (taken : List ℕ) (k : ℕ) → length taken ≡ k → Named taken → Named (taken ++ g peer k ∷ [])
  named-more taken k many each n l = dite (dec_lt n (length taken))
      (λ less. get-more taken (g peer k ∷ []) n (g peer n) (each n less))
      (λ no.
      let a = length-append taken (g peer k ∷ []) in
      let is : n ≡ k = omega (arith, l, no, a, many) in
      get-last taken (g peer k) n (many ∙ sym is) ∙ ap (λ (m : ℕ). Some (g peer m)) (sym is))

  gives-more : (taken places rest : List ℕ) (ms : List ReceiveMove) → AllByRecursion (λ n. n < length taken) places → Named taken → GivesAt taken rest ms → GivesAt taken (places ++ rest) (giving (map (g peer) places) ++ ms)
  gives-more taken [] rest ms below each then = then
  gives-more taken (n ∷ places) rest ms below each then = (each n below.0, gives-more taken places rest ms below.1 each then)

  abbrev moves_after : DomainState → List Deed → List ReceiveMove
  moves_after t ds = along (deed_moves peer) (renamed g t) (map (renamed_deed (new_name g)) ds)

  -- after a deed
  next : (t : DomainState) (d : Deed) (ds : List Deed) (taken places : List ℕ) (ms : List ReceiveMove) → GivesAt taken (places ++ along (names_given peer) (after_deed t d) ds) (ms ++ moves_after (after_deed t d) ds)
      → GivesAt taken (places ++ along (names_given peer) (after_deed t d) ds) (ms ++ along (deed_moves peer) (after_deed (renamed g t) (renamed_deed (new_name g) d)) (map (renamed_deed (new_name g)) ds))
  next t d ds taken places ms h =
      subst (λ (s : DomainState). GivesAt taken (places ++ along (names_given peer) (after_deed t d) ds) (ms ++ along (deed_moves peer) s (map (renamed_deed (new_name g)) ds))) (deed-renamed g (new_name g) (same-names g) t d) h

  -- a deed that takes no frame from the peer
  same-many : (before : List Deed) (d : Deed) (taken : List ℕ) → length taken ≡ count_taken peer before → taken_by peer d ≡ 0 → length taken ≡ count_taken peer (before ++ d ∷ [])
  same-many before d taken many none = let c = count-more peer before d in omega (arith, many, c, none)

  gives : (t : DomainState) (ds before : List Deed) (taken : List ℕ) → AreNamed before ds → Kept before t → length taken ≡ count_taken peer before → Named taken → GivesAt taken (along (names_given peer) t ds) (moves_after t ds)
  gives t [] before taken named kept many each = refl
  gives t (looks_back p c ∷ ds) before taken named kept many each =
      next t (looks_back p c) ds taken [] []
      (gives (after_deed t (looks_back p c)) ds (before ++ looks_back p c ∷ []) taken named.1 (kept-next before (looks_back p c) t named.0 kept) (same-many before (looks_back p c) taken many refl) each)
  gives t (puts_owed p f ∷ ds) before taken named kept many each =
      next t (puts_owed p f) ds taken [] []
      (gives (after_deed t (puts_owed p f)) ds (before ++ puts_owed p f ∷ []) taken named.1 (kept-next before (puts_owed p f) t named.0 kept) (same-many before (puts_owed p f) taken many refl) each)
  gives t (looks_ahead p c ∷ ds) before taken named kept many each =
      next t (looks_ahead p c) ds taken [] []
      (gives (after_deed t (looks_ahead p c)) ds (before ++ looks_ahead p c ∷ []) taken named.1 (kept-next before (looks_ahead p c) t named.0 kept) (same-many before (looks_ahead p c) taken many refl) each)
  gives t (calls node call a ∷ ds) before taken named kept many each =
      let is : frames_from peer (returned (renamed g t) node call) ≡ map (g peer) (frames_from peer (returned t node call)) = ap (frames_from peer) (returned-renamed g t node call) ∙ frames-renamed g peer (returned t node call) in
      next t (calls node call a) ds taken (frames_from peer (returned t node call)) (giving (frames_from peer (returned (renamed g t) node call)))
      (subst (λ (ns : List ℕ). GivesAt taken (frames_from peer (returned t node call) ++ along (names_given peer) (after_deed t (calls node call a)) ds) (giving ns ++ moves_after (after_deed t (calls node call a)) ds)) (sym is)
      (gives-more taken (frames_from peer (returned t node call)) (along (names_given peer) (after_deed t (calls node call a)) ds) (moves_after (after_deed t (calls node call a)) ds)
      (subst (λ (m : ℕ). AllByRecursion (λ n. n < m) (frames_from peer (returned t node call))) (sym many) (frames-below peer before (returned t node call) (returned-holds (Below before) t kept.items node call))) each
      (gives (after_deed t (calls node call a)) ds (before ++ calls node call a ∷ []) taken named.1 (kept-next before (calls node call a) t named.0 kept) (same-many before (calls node call a) taken many refl) each)))
  gives t (takes p name frame word ∷ ds) before taken named kept many each =
      go (p == peer) refl (λ more count of. gives (after_deed t (takes p name frame word)) ds (before ++ takes p name frame word ∷ []) more named.1 (kept-next before (takes p name frame word) t named.0 kept) count of)
    where
      go : (b : Bool) → (p == peer) ≡ b
          → ((more : List ℕ) → length more ≡ count_taken peer (before ++ takes p name frame word ∷ []) → Named more → GivesAt more (along (names_given peer) (after_deed t (takes p name frame word)) ds) (moves_after (after_deed t (takes p name frame word)) ds))
          → GivesAt taken (cond b (given_by_frame t p name frame word) [] ++ along (names_given peer) (after_deed t (takes p name frame word)) ds)
          (cond b (taking (new_name g p name) frame (given_by_frame (renamed g t) p (new_name g p name) frame word)) [] ++ along (deed_moves peer) (after_deed (renamed g t) (renamed_deed (new_name g) (takes p name frame word))) (map (renamed_deed (new_name g)) ds))
      go false same then =
          next t (takes p name frame word) ds taken [] []
          (then taken (same-many before (takes p name frame word) taken many (ap (λ (b : Bool). cond {A = ℕ} b 1 0) same)) each)
      go true same then =
          let is : p ≡ peer = eqb-true p peer same in
          let given : List ℕ = given_by_frame t p name frame word in
          let number : g p (named_so name) ≡ g peer (count_taken peer before) = ap₂ g is (ap named_so named.0 ∙ ap (λ (q : ℕ). count_taken q before) is) in
          let numbers : given_by_frame (renamed g t) p (new_name g p name) frame word ≡ map (g peer) given = given-renamed g t p name frame word ∙ ap (λ (q : ℕ). map (g q) given) is in
          let more : List ℕ = taken ++ g peer (count_taken peer before) ∷ [] in
          let count : length more ≡ count_taken peer (before ++ takes p name frame word ∷ []) =
          (let c = count-more peer before (takes p name frame word) in let one = ap (λ (b : Bool). cond {A = ℕ} b 1 0) same in let a = length-append taken (g peer (count_taken peer before) ∷ []) in omega (arith, many, c, one, a)) in
          let below : AllByRecursion (λ n. n < length more) given =
          subst (λ (m : ℕ). AllByRecursion (λ n. n < m) given) (ap (λ (q : ℕ). count_taken q (before ++ takes p name frame word ∷ [])) is ∙ sym count) (given-taken before t p name frame word named.0 kept) in
          let rest = then more count (named-more taken (count_taken peer before) many each) in
          next t (takes p name frame word) ds taken given (taking (new_name g p name) frame (given_by_frame (renamed g t) p (new_name g p name) frame word))
          (subst (λ (x : ℕ × List ℕ). GivesAt taken (given ++ along (names_given peer) (after_deed t (takes p name frame word)) ds) (taking (Some x.0) frame x.1 ++ moves_after (after_deed t (takes p name frame word)) ds)) (λ i. (sym number i, sym numbers i))
          (gives-more more given (along (names_given peer) (after_deed t (takes p name frame word)) ds) (moves_after (after_deed t (takes p name frame word)) ds) below (named-more taken (count_taken peer before) many each) rest))

pub places-are-given : PlacesAreGiven
places-are-given s j peer deeds moves board run did =
    let named = (deeds_run s j board run).named in
    let is : deeds ≡ map (renamed_deed (new_name (name_at deeds))) (deeds_of s j) = renamed-are deeds [] deeds [] (deeds_of s j) refl (λ q. refl) did.numbered did.noted named in
    gives-unlooked [] (along (names_given peer) (opened s j) (deeds_of s j)) moves
    (subst (GivesAt [] (along (names_given peer) (opened s j) (deeds_of s j))) (sym (did.moved ∙ ap (along (deed_moves peer) (opened s j)) is))
    (gives (name_at deeds) peer (opened s j) (deeds_of s j) [] [] named (record { items = record { queued = tt; lent = tt; packets = tt }; parts = tt }) refl (λ k l. absurd (omega (arith, l)))))
