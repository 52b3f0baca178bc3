-- A turn of the serial run: each of its visits is one that the lanes allow, and it leaves each lane well.
use Rattle.std.proofs.Common.{◌≡◌, ℕ, ◌+◌, ◌≤◌, Bool, true, false, ◌&&◌, cond, List, [], ◌∷◌, ◌++◌, length, map, sum, flat_map, refl, sym, ap, ◌∙◌, subst, inl, inr, arith, length-append, append_assoc, append-nil, eq-eqb, eqb-true}
use Rattle.std.specs.Prelude.{◌==◌}
use Rattle.std.specs.List.{AllByRecursion}
use Rattle.std.proofs.lemmas.Bool.Decides.{eqb_tells}
use Rattle.std.proofs.lemmas.List.{map-append, length-map}
use Rattle.std.proofs.lemmas.List.Sums.{sum_by-cons}
use Rattle.board_model.specs.Journal.{Visit, Taken, turned}
use Rattle.board_model.specs.State.{DomainState}
use Rattle.board_model.specs.Deeds.{along}
use Rattle.board_model.specs.Returns.{names_given}
use Rattle.board_model.specs.Turn.{nameless, visit_deeds, after_visit, after_turn, AreVisits, IsTurn}
use Rattle.board_model.specs.Serial.{returned_at_once}
use Rattle.board_model.specs.Loads.{Load, visit_to, loads_visited, visits_to_all, loads_after, turn_of}
use Rattle.board_model.specs.Traffic.{visits_to, puts_in, takes_in, backs_in}
use Rattle.board_model.specs.Board.{SeeAtMost}
use Rattle.board_model.proofs.VisitLooks.{after_looks}
use Rattle.board_model.proofs.LaneRuns.{visit-gives, turn-gives}
use Rattle.board_model.proofs.DeedJoins.{deeds-keep, deeds-numbers}
use Rattle.board_model.proofs.WholePeers.{numbers}
use Rattle.board_model.proofs.WholeLanes.{Book, placed, eqb_turn}
use Rattle.board_model.proofs.WholeTakes.{frames_of, other_given}
use Rattle.board_model.proofs.WholeVisits.{AllOk, visited_book, visit_lanes}

-- ---- what the visits of a turn add to the book of a lane

abbrev pub turned_book : ℕ → DomainState → List Visit → ℕ → ℕ → Book → Book
turned_book d s [] a b k = k
turned_book d s (v ∷ vs) a b k = turned_book d (after_visit s v) vs a b (visited_book d s v a b k)

-- visits to a peer, by whether the first is one
visits_cond : (v : Visit) (vs : List Visit) (n : ℕ) (y : Bool) → (v.peer == n) ≡ y → visits_to n (v ∷ vs) ≡ cond y (v ∷ visits_to n vs) (visits_to n vs)
visits_cond v vs n y e = ap (λ b. cond b (v ∷ visits_to n vs) (visits_to n vs)) e

joined_more : {A V : Type 0} (f : V → List A) (v : V) (vs : List V) (x y : Bool) (k : List A) → (k ++ cond (x && y) (f v) []) ++ cond x (flat_map f vs) [] ≡ k ++ cond x (flat_map f (cond y (v ∷ vs) vs)) []
joined_more f v vs true true k = append_assoc k (f v) (flat_map f vs)
joined_more f v vs true false k = ap (λ xs. xs ++ flat_map f vs) (append-nil k)
joined_more f v vs false y k = ap (λ xs. xs ++ []) (append-nil k)

pub turned_puts : (d : ℕ) (s : DomainState) (vs : List Visit) (a b : ℕ) (k : Book) → (turned_book d s vs a b k).puts ≡ k.puts ++ cond (a == d) (puts_in b (turned vs)) []
turned_puts d s [] a b k = go (a == d)
  where
    go : (x : Bool) → k.puts ≡ k.puts ++ cond x [] []
    go true = sym (append-nil k.puts)
    go false = sym (append-nil k.puts)
turned_puts d s (v ∷ vs) a b k =
    turned_puts d (after_visit s v) vs a b (visited_book d s v a b k)
    ∙ joined_more (λ (x : Visit). x.owed) v (visits_to b vs) (a == d) (b == v.peer) k.puts
    ∙ ap (λ (us : List Visit). k.puts ++ cond (a == d) (flat_map (λ x. x.owed) us) []) (sym (visits_cond v vs b (b == v.peer) (eqb_turn b v.peer (b == v.peer) refl)))

frames-joined : (us : List Visit) → frames_of (flat_map (λ x. x.takes) us) ≡ flat_map (λ x. frames_of x.takes) us
frames-joined [] = refl
frames-joined (u ∷ us) = map-append (λ (t : Taken). t.frame) u.takes (flat_map (λ (x : Visit). x.takes) us) ∙ ap (λ xs. frames_of u.takes ++ xs) (frames-joined us)

flipped_cond : {X : Type 0} (x y : Bool) (p q : X) → cond (x && y) p q ≡ cond (y && x) p q
flipped_cond true true p q = refl
flipped_cond true false p q = refl
flipped_cond false true p q = refl
flipped_cond false false p q = refl

pub turned_taken : (d : ℕ) (s : DomainState) (vs : List Visit) (a b : ℕ) (k : Book) → (turned_book d s vs a b k).taken ≡ k.taken ++ cond (b == d) (frames_of (takes_in a (turned vs))) []
turned_taken d s [] a b k = go (b == d)
  where
    go : (x : Bool) → k.taken ≡ k.taken ++ cond x [] []
    go true = sym (append-nil k.taken)
    go false = sym (append-nil k.taken)
turned_taken d s (v ∷ vs) a b k =
    turned_taken d (after_visit s v) vs a b (visited_book d s v a b k)
    ∙ ap (λ (xs : List (List ℕ)). (k.taken ++ xs) ++ cond (b == d) (frames_of (takes_in a (turned vs))) []) (flipped_cond (a == v.peer) (b == d) (frames_of v.takes) [])
    ∙ ap (λ (xs : List (List ℕ)). (k.taken ++ cond ((b == d) && (a == v.peer)) (frames_of v.takes) []) ++ cond (b == d) xs []) (frames-joined (visits_to a vs))
    ∙ joined_more (λ (x : Visit). frames_of x.takes) v (visits_to a vs) (b == d) (a == v.peer) k.taken
    ∙ ap (λ (us : List Visit). k.taken ++ cond (b == d) (flat_map (λ x. frames_of x.takes) us) []) (sym (visits_cond v vs a (a == v.peer) (eqb_turn a v.peer (a == v.peer) refl)))
    ∙ ap (λ (xs : List (List ℕ)). k.taken ++ cond (b == d) xs []) (sym (frames-joined (visits_to a (v ∷ vs))))

-- numbers add up as the lists do
added_more : {V : Type 0} (g : List V → ℕ) (n : ℕ) (v : V) (vs : List V) → g (v ∷ vs) ≡ n + g vs → (x y : Bool) (k : ℕ) → k + cond (x && y) n 0 + cond x (g vs) 0 ≡ k + cond x (g (cond y (v ∷ vs) vs)) 0
added_more g n v vs e true true k = omega (arith, e)
added_more g n v vs e true false k = omega arith
added_more g n v vs e false y k = omega arith

pub turned_backs : (d : ℕ) (s : DomainState) (vs : List Visit) (a b : ℕ) (k : Book) → (turned_book d s vs a b k).backs ≡ k.backs + cond (a == d) (sum (backs_in b (turned vs))) 0
turned_backs d s [] a b k = go (a == d)
  where
    go : (x : Bool) → k.backs ≡ k.backs + cond x 0 0
    go true = omega arith
    go false = omega arith
turned_backs d s (v ∷ vs) a b k =
    let g : List Visit → ℕ = λ us. sum (map (λ x. x.back) us) in
    turned_backs d (after_visit s v) vs a b (visited_book d s v a b k)
    ∙ added_more g v.back v (visits_to b vs) (sum_by-cons (λ (x : ℕ). x) v.back (map (λ x. x.back) (visits_to b vs))) (a == d) (b == v.peer) k.backs
    ∙ ap (λ (us : List Visit). k.backs + cond (a == d) (g us) 0) (sym (visits_cond v vs b (b == v.peer) (eqb_turn b v.peer (b == v.peer) refl)))

-- a visit gives back to its own peer
visit_own : (s : DomainState) (v : Visit) (a : ℕ) (y : Bool) → (a == v.peer) ≡ y → length (along (names_given a) s (visit_deeds nameless v)) ≡ cond y (returned_at_once s v) 0
visit_own s v a true e = ap (λ n. length (along (names_given n) s (visit_deeds nameless v))) (eqb-true a v.peer e)
visit_own s v a false e = ap length (visit-gives a s v ∙ other_given a (after_looks s v) v.peer v.takes (eqb_turn a v.peer false e))

gives_cond : (x y : Bool) (k n g : ℕ) → k + cond (y && x) n 0 + cond x g 0 ≡ k + cond x (cond y n 0 + g) 0
gives_cond true true k n g = omega arith
gives_cond true false k n g = omega arith
gives_cond false true k n g = omega arith
gives_cond false false k n g = omega arith

abbrev turn_given : ℕ → DomainState → List Visit → ℕ
turn_given a s vs = length (along (names_given a) s (flat_map (visit_deeds nameless) vs))

pub turned_gives : (d : ℕ) (s : DomainState) (vs : List Visit) (a b : ℕ) (k : Book) → (turned_book d s vs a b k).gives ≡ k.gives + cond (b == d) (turn_given a s vs) 0
turned_gives d s [] a b k = go (b == d)
  where
    go : (x : Bool) → k.gives ≡ k.gives + cond x 0 0
    go true = omega arith
    go false = omega arith
turned_gives d s (v ∷ vs) a b k =
    turned_gives d (after_visit s v) vs a b (visited_book d s v a b k)
    ∙ (gives_cond (b == d) (a == v.peer) k.gives (returned_at_once s v) (turn_given a (after_visit s v) vs)
    ∙ (ap (λ n. k.gives + cond (b == d) (n + turn_given a (after_visit s v) vs) 0) (sym (visit_own s v a (a == v.peer) refl))
    ∙ ap (λ n. k.gives + cond (b == d) n 0) (sym (turn-gives a s v vs))))

puts_grow : (d : ℕ) (s : DomainState) (vs : List Visit) (a b : ℕ) (k : Book) → length k.puts ≤ length (turned_book d s vs a b k).puts
puts_grow d s vs a b k = omega (arith, ap length (turned_puts d s vs a b k), length-append k.puts (cond (a == d) (puts_in b (turned vs)) []))

-- ---- the turn

-- the visits are allowed, leave the lanes well, and see at most what was put
pub record Turned (Joined : ℕ → ℕ → ℕ → Type 0) (states : ℕ → DomainState) (d : ℕ) (s : DomainState) (books : ℕ → ℕ → Book) (loads : List Load) (ps : List ℕ) : Type 0 where
  pub are : AreVisits s (visits_to_all s loads ps)
  pub lanes : AllOk Joined (placed states d (after_turn s (visits_to_all s loads ps))) (λ a b. turned_book d s (visits_to_all s loads ps) a b (books a b)) (loads_after s loads ps)
  pub sees : (a total : ℕ) → length (turned_book d s (visits_to_all s loads ps) a d (books a d)).puts ≤ total → SeeAtMost total (length (books a d).taken) (visits_to a (visits_to_all s loads ps))

visit_number : (s : DomainState) (v : Visit) → (after_visit s v).number ≡ s.number
visit_number s v = deeds-keep (λ t. t.number) (λ t c. refl) s (visit_deeds nameless v)

taken_so : (d : ℕ) (s : DomainState) (v : Visit) (a : ℕ) (k : Book) (y : Bool) → (a == v.peer) ≡ y → length (visited_book d s v a d k).taken ≡ length k.taken + cond y (length v.takes) 0
taken_so d s v a k true e =
    let now : ((a == v.peer) && (d == d)) ≡ true = ap (λ b. b && (d == d)) e ∙ eq-eqb d d refl in
    omega (arith, ap (λ b. length (k.taken ++ cond b (frames_of v.takes) [])) now, length-append k.taken (frames_of v.takes), length-map v.takes (λ t. t.frame))
taken_so d s v a k false e =
    let now : ((a == v.peer) && (d == d)) ≡ false = ap (λ b. b && (d == d)) e in
    omega (arith, ap (λ b. length (k.taken ++ cond b (frames_of v.takes) [])) now, length-append k.taken [])

see_visit : (d : ℕ) (s : DomainState) (v : Visit) (vs : List Visit) (a total : ℕ) (k : Book) → (v.peer ≡ a → v.see + length k.taken ≤ total) → SeeAtMost total (length (visited_book d s v a d k).taken) (visits_to a vs) → SeeAtMost total (length k.taken) (visits_to a (v ∷ vs))
see_visit d s v vs a total k fits later = elim (eqb_tells v.peer a) [
  | inl same ↦
      let more = taken_so d s v a k true (eqb_turn v.peer a true same.0) in
      subst (λ us. SeeAtMost total (length k.taken) us) (sym (visits_cond v vs a true same.0)) (fits same.1, subst (λ n. SeeAtMost total n (visits_to a vs)) more later)
  | inr differ ↦
      let more : length (visited_book d s v a d k).taken ≡ length k.taken = omega (arith, taken_so d s v a k false (eqb_turn v.peer a false differ.0)) in
      subst (λ us. SeeAtMost total (length k.taken) us) (sym (visits_cond v vs a false differ.0)) (subst (λ n. SeeAtMost total n (visits_to a vs)) more later)
]

pub turn_lanes : (Joined : ℕ → ℕ → ℕ → Type 0) → ((a b size : ℕ) → Joined a b size → Joined b a size) → (states : ℕ → DomainState) (d : ℕ) (s : DomainState) (books : ℕ → ℕ → Book) (loads : List Load) (ps : List ℕ) → s.number ≡ d → AllByRecursion (λ p. (size : ℕ) × Joined d p size) ps → AllOk Joined (placed states d s) books loads → Turned Joined states d s books loads ps
turn_lanes Joined turn states d s books loads [] e joins h = record { are = tt; lanes = h; sees = λ a total fits. tt }
turn_lanes Joined turn states d s books loads (p ∷ ps) e joins h =
    let v = visit_to s loads p in
    let here = visit_lanes Joined turn states d s books loads p joins.0.0 e joins.0.1 h in
    let rest = turn_lanes Joined turn states d (after_visit s v) (λ a b. visited_book d s v a b (books a b)) (loads_visited s loads p) ps (visit_number s v ∙ e) joins.1 here.lanes in
    let vs = visits_to_all (after_visit s v) (loads_visited s loads p) ps in
    record {
      are = (here.is_visit, rest.are);
      lanes = rest.lanes;
      sees = λ a total fits.
          see_visit d s v vs a total (books a d)
          (λ same.
          let at : v.see + length (books a d).taken ≡ length (visited_book d s v a d (books a d)).puts = subst (λ n. v.see + length (books n d).taken ≡ length (visited_book d s v n d (books n d)).puts) same here.sees in
          omega (arith, at, puts_grow d (after_visit s v) vs a d (visited_book d s v a d (books a d)), fits))
          (rest.sees a total fits);
    }

visited_peers : (s : DomainState) (loads : List Load) (ps : List ℕ) → map (λ v. v.peer) (visits_to_all s loads ps) ≡ ps
visited_peers s loads [] = refl
visited_peers s loads (p ∷ ps) = ap (λ (ns : List ℕ). p ∷ ns) (visited_peers (after_visit s (visit_to s loads p)) (loads_visited s loads p) ps)

pub is_turn : (s : DomainState) (loads : List Load) → AreVisits s (turn_of s loads) → IsTurn s (turn_of s loads)
is_turn s loads are = record { each_peer = visited_peers s loads (numbers s); allowed = are }

-- a turn keeps the number of the domain, and the numbers of its peers
pub turn_number : (s : DomainState) (vs : List Visit) → (after_turn s vs).number ≡ s.number
turn_number s [] = refl
turn_number s (v ∷ vs) = turn_number (after_visit s v) vs ∙ visit_number s v

pub turn_numbers : (s : DomainState) (vs : List Visit) → numbers (after_turn s vs) ≡ numbers s
turn_numbers s [] = refl
turn_numbers s (v ∷ vs) = turn_numbers (after_visit s v) vs ∙ deeds-numbers s (visit_deeds nameless v)
