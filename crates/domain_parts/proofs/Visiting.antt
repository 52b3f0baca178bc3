-- Frames that are taken one after the other, and a visit by its parts.
use Rattle.std.proofs.Common.{◌≡◌, ℕ, suc, ◌+◌, ◌-◌, ◌<◌, ◌≤◌, Bool, true, false, List, [], ◌∷◌, ◌++◌, length, map, take, Option, Some, refl, sym, ap, ◌∙◌, subst, arith, append_assoc, min}
use Rattle.std.specs.Prelude.{not, ◌&&◌, ◌||◌, ◌==◌, if◌then◌else◌, slice_get}
use Rattle.std.proofs.lemmas.Bool.{and_parts, eqb-true, true≢false}
use Rattle.std.proofs.lemmas.List.{append-nil, length_push, map-append, take_at, take_min}
use Rattle.std.proofs.lemmas.Option.{slice_get-get_or}
use Rattle.lane_end.specs.SendMoves.{Looked}
use Rattle.lane_end.specs.ReceiveMoves.{Gave}
use Rattle.lane_end.specs.ReceiveMoves as receiving
use Rattle.board_model.specs.Deeds.{Deed, after_deed, after_deeds, looks_ahead, looks_back, puts_owed, takes}
use Rattle.board_model.specs.Journal.{Line, Visit, Taken, back_line, put_line, see_line, taken_line}
use Rattle.board_model.specs.Returns.{given_by_frame}
use Rattle.board_model.specs.State.{DomainState, held_from, is_numbered}
use Rattle.board_model.specs.Turn.{takes_named}
use Rattle.board_model.proofs.MessageLists.{get-position}
use Rattle.board_model.proofs.UnnamedCounts.{held-unnamed}
use Rattle.domain_parts.specs.Beginning.{beginning, look_lines}
use Rattle.domain_parts.specs.CallSteps.{Rests}
use Rattle.domain_parts.specs.Doing.{Doing, PutsDue, Takes, Visits, owed_at}
use Rattle.domain_parts.specs.NumberedDeeds.{number_in}
use Rattle.domain_parts.specs.LaneMoves.{LaneMove, sender, receiver}
use Rattle.domain_parts.specs.LaneSeen.{LaneSeen, after_move, after_moves}
use Rattle.domain_parts.specs.Owed.{put_lines}
use Rattle.domain_parts.specs.Parts.{Holding, Sound, nobody, peer_at, plain, state_of, parts_read}
use Rattle.domain_parts.specs.Peers.{peer_in}
use Rattle.domain_parts.specs.Sound.{IsSized}
use Rattle.domain_parts.specs.VisitMoves.{before_takes, giving, putting, taking, taking_one}
use Rattle.domain_parts.proofs.Owing.{free-put}
use Rattle.domain_parts.proofs.PeerPlaces.{All-at}
use Rattle.domain_parts.proofs.PeersAt.{find-place}
use Rattle.domain_parts.proofs.ToldTurns.{none-in}
use Rattle.domain_parts.proofs.Unnaming.{visit-may}
use Rattle.domain_parts.proofs.Turning.{did-numbers, doing-ends, doing-none, doing-then, same-length, same-number, seen-then}

-- ---- frames, and one more

-- names that are the same at each place, and those behind the first number
named_alike : (f g : ℕ → Option ℕ) → ((k : ℕ) → f k ≡ g k) → (peer : ℕ) (ts : List Taken) → takes_named f peer ts ≡ takes_named g peer ts
named_alike f g same peer [] = refl
named_alike f g same peer (t ∷ ts) =
    ap (λ (o : Option ℕ). takes peer o t.frame t.fate ∷ takes_named (λ k. f (k + 1)) peer ts) (same 0)
    ∙ ap (λ (ds : List Deed). takes peer (g 0) t.frame t.fate ∷ ds) (named_alike (λ k. f (k + 1)) (λ k. g (k + 1)) (λ k. same (k + 1)) peer ts)

named_behind : (n : ℕ) (ns : List ℕ) (peer : ℕ) (ts : List Taken) → takes_named (λ k. number_in (n ∷ ns) (k + 1)) peer ts ≡ takes_named (number_in ns) peer ts
named_behind n ns = named_alike (λ k. number_in (n ∷ ns) (k + 1)) (number_in ns) behind
  where
    behind : (k : ℕ) → number_in (n ∷ ns) (k + 1) ≡ number_in ns k
    behind k = let next : k + 1 ≡ suc k = omega arith in ap (slice_get (n ∷ ns)) next

numbered_push : (peer : ℕ) (ns : List ℕ) (ts : List Taken) (n : ℕ) (t : Taken) → length ns ≡ length ts → takes_named (number_in (ns ++ n ∷ [])) peer (ts ++ t ∷ []) ≡ takes_named (number_in ns) peer ts ++ takes_named (number_in (n ∷ [])) peer (t ∷ [])
numbered_push peer [] [] n t same = refl
numbered_push peer [] (u ∷ ts) n t same = absurd (omega (arith, same))
numbered_push peer (m ∷ ns) [] n t same = absurd (omega (arith, same))
numbered_push peer (m ∷ ns) (u ∷ ts) n t same =
    ap (λ (ds : List Deed). takes peer (Some m) u.frame u.fate ∷ ds)
    (named_behind m (ns ++ n ∷ []) peer (ts ++ t ∷ [])
    ∙ numbered_push peer ns ts n t (omega (arith, same))
    ∙ ap (λ (ds : List Deed). ds ++ takes_named (number_in (n ∷ [])) peer (t ∷ [])) (sym (named_behind m ns peer ts)))

taking_push : (s : DomainState) (peer : ℕ) (ns : List ℕ) (ts : List Taken) (n : ℕ) (t : Taken) → length ns ≡ length ts → taking s peer (ns ++ n ∷ []) (ts ++ t ∷ []) ≡ taking s peer ns ts ++ taking (after_deeds s (takes_named (number_in ns) peer ts)) peer (n ∷ []) (t ∷ [])
taking_push s peer [] [] n t same = refl
taking_push s peer [] (u ∷ ts) n t same = absurd (omega (arith, same))
taking_push s peer (m ∷ ns) [] n t same = absurd (omega (arith, same))
taking_push s peer (m ∷ ns) (u ∷ ts) n t same =
    let now = after_deed s (takes peer (Some m) u.frame u.fate) in
    ap (λ (xs : List LaneMove). taking_one s peer m u ++ xs)
    (taking_push now peer ns ts n t (omega (arith, same)) ∙ ap (λ (ds : List Deed). taking now peer ns ts ++ taking (after_deeds now ds) peer (n ∷ []) (t ∷ [])) (sym (named_behind m ns peer ts)))
    ∙ sym (append_assoc (taking_one s peer m u) (taking now peer ns ts) (taking (after_deeds now (takes_named (λ k. number_in (m ∷ ns) (k + 1)) peer ts)) peer (n ∷ []) (t ∷ [])))

one_only : {X : Type 0} (xs : List X) → length xs ≡ 1 → (x : X) × (xs ≡ x ∷ [])
one_only [] e = absurd (omega (arith, e))
one_only (x ∷ []) e = (x, refl)
one_only (x ∷ y ∷ xs) e = absurd (omega (arith, e))

-- as many fewer are shown
given_shown : (gs : List ℕ) (l : LaneSeen) → (after_moves (giving gs) l).shown ≡ l.shown
given_shown [] l = refl
given_shown (g ∷ gs) l = given_shown gs (after_move (receiver (Gave g)) l)

pub taken-shown : (s : DomainState) (peer : ℕ) (ns : List ℕ) (ts : List Taken) (l : LaneSeen) → length ns ≡ length ts → (after_moves (taking s peer ns ts) l).shown ≡ l.shown - length ts
taken-shown s peer [] [] l same = omega arith
taken-shown s peer [] (t ∷ ts) l same = absurd (omega (arith, same))
taken-shown s peer (n ∷ ns) [] l same = absurd (omega (arith, same))
taken-shown s peer (n ∷ ns) (t ∷ ts) l same =
    let took = record l { shown = l.shown - 1; out = l.out ++ n ∷ [] } in
    let given = given_by_frame s peer (Some n) t.frame t.fate in
    let now = after_deed s (takes peer (Some n) t.frame t.fate) in
    let rest = taken-shown now peer ns ts (after_moves (giving given) took) (omega (arith, same)) in
    let split = ap (λ (x : LaneSeen). x.shown) (seen-then (giving given) (taking now peer ns ts) took) in
    let stays = given_shown given took in
    omega (arith, rest, split, stays)

module _ {L : Type 0} (M : L → List LaneMove → L → Type 0) where
  pub Takes-none : (i : ℕ) (h : Holding L) (lines : List Line) → Rests M h → Takes M i 0 h h lines lines
  Takes-none i h lines rests = record { takes = []; numbers = []; many = refl; each = refl; doing = doing-none M (peer_at h.parts i).number h rests; told = sym (append-nil lines) }

  pub Takes-more : ((a b c : L) (xs ys : List LaneMove) → M a xs b → M b ys c → M a (xs ++ ys) c) → (i k : ℕ) (a b c : Holding L) (ls ls' ls'' : List Line) → Takes M i k a b ls ls' → Takes M i 1 b c ls' ls'' → Takes M i (k + 1) a c ls ls''
  Takes-more both i k a b c ls ls' ls'' so_far one =
      let peer = (peer_at a.parts i).number in
      let same_peer : (peer_at b.parts i).number ≡ peer = same-number a.parts b.parts i (did-numbers M so_far.doing.steps a b so_far.doing.did) in
      let t1 = one_only one.takes one.many in
      let n1 = one_only one.numbers one.each in
      let t = t1.0 in
      let n = n1.0 in
      let ts = so_far.takes in
      let ns = so_far.numbers in
      let same : length ns ≡ length ts = so_far.each ∙ sym so_far.many in
      let s = state_of a.parts in
      let s' = after_deeds s (takes_named (number_in ns) peer ts) in
      let last : Doing M peer (takes_named (number_in (n ∷ [])) peer (t ∷ [])) (taking s' peer (n ∷ []) (t ∷ [])) b c =
      subst (λ (u : DomainState). Doing M peer (takes_named (number_in (n ∷ [])) peer (t ∷ [])) (taking u peer (n ∷ []) (t ∷ [])) b c) so_far.doing.state
      (subst (λ (xs : List ℕ). Doing M peer (takes_named (number_in xs) peer (t ∷ [])) (taking (state_of b.parts) peer xs (t ∷ [])) b c) n1.1
      (subst (λ (xs : List Taken). Doing M peer (takes_named (number_in one.numbers) peer xs) (taking (state_of b.parts) peer one.numbers xs) b c) t1.1
      (subst (λ (m : ℕ). Doing M m (takes_named (number_in one.numbers) m one.takes) (taking (state_of b.parts) m one.numbers one.takes) b c) same_peer one.doing))) in
      let told : ls'' ≡ ls' ++ taken_line peer t ∷ [] = one.told ∙ ap (λ (m : ℕ). ls' ++ map (taken_line m) one.takes) same_peer ∙ ap (λ (xs : List Taken). ls' ++ map (taken_line peer) xs) t1.1 in
      record {
        takes = ts ++ t ∷ [];
        numbers = ns ++ n ∷ [];
        many = length_push ts t ∙ ap (λ (j : ℕ). j + 1) so_far.many;
        each = length_push ns n ∙ ap (λ (j : ℕ). j + 1) so_far.each;
        doing = subst (λ (ds : List Deed). Doing M peer ds (taking s peer (ns ++ n ∷ []) (ts ++ t ∷ [])) a c) (sym (numbered_push peer ns ts n t same))
            (subst (λ (ms : List LaneMove). Doing M peer (takes_named (number_in ns) peer ts ++ takes_named (number_in (n ∷ [])) peer (t ∷ [])) ms a c) (sym (taking_push s peer ns ts n t same))
            (doing-then M both peer (takes_named (number_in ns) peer ts) (takes_named (number_in (n ∷ [])) peer (t ∷ [])) (taking s peer ns ts) (taking s' peer (n ∷ []) (t ∷ [])) a b c so_far.doing last));
        told = told
            ∙ ap (λ (xs : List Line). xs ++ taken_line peer t ∷ []) so_far.told
            ∙ append_assoc ls (map (taken_line peer) ts) (taken_line peer t ∷ [])
            ∙ ap (λ (xs : List Line). ls ++ xs) (sym (map-append (taken_line peer) ts (t ∷ [])));
      }

-- ---- lines, of which the turn's own is noted before the first

-- two parts of a visit: n and m tell whether they have no lines
two-told : (begun n m : Bool) (xs ys : List Line) → (m ≡ true → ys ≡ [])
    → (if n then [] else beginning begun ++ xs) ++ (if m then [] else beginning (begun || not n) ++ ys) ≡ (if n && m then [] else beginning begun ++ ((if n then [] else xs) ++ ys))
two-told begun true true xs ys none = refl
two-told true true false xs ys none = refl
two-told false true false xs ys none = refl
two-told begun false true xs ys none =
    append-nil (beginning begun ++ xs)
    ∙ ap (λ (ls : List Line). beginning begun ++ ls) (sym (append-nil xs))
    ∙ ap (λ (ls : List Line). beginning begun ++ (xs ++ ls)) (sym (none refl))
two-told true false false xs ys none = refl
two-told false false false xs ys none = refl

-- parts without lines have none together
rest-none : (n m : Bool) (xs ys : List Line) → (n ≡ true → xs ≡ []) → (m ≡ true → ys ≡ []) → (n && m) ≡ true → xs ++ ys ≡ []
rest-none n m xs ys none none' e = let both = and_parts n m e in ap (λ (ls : List Line). ls ++ ys) (none both.0) ∙ none' both.1

if-none : (n : Bool) (xs : List Line) → (n ≡ true → xs ≡ []) → (if n then [] else xs) ≡ xs
if-none true xs none = sym (none refl)
if-none false xs none = refl

if-some : (n : Bool) (xs : List Line) → n ≡ true → (if n then [] else xs) ≡ []
if-some n xs e = ap (λ (b : Bool). if b then [] else xs) e

-- owed frames that are put
puts-told : (begun : Bool) (peer : ℕ) (fs : List (List ℕ)) → put_lines begun peer fs ≡ (if length fs == 0 then [] else beginning begun ++ map (put_line peer) fs)
puts-told begun peer [] = refl
puts-told begun peer (f ∷ fs) =
    let some : (length (f ∷ fs) == 0) ≡ false = grind arith in
    ap (λ (b : Bool). if b then [] else beginning begun ++ map (put_line peer) (f ∷ fs)) (sym some)

-- frames that are taken, which are some only where the turn has begun
takes-told : (begun z t : Bool) (ts : List Line) → (z ≡ true → t ≡ true) → (t ≡ true → ts ≡ []) → ts ≡ (if t then [] else beginning (begun || not z) ++ ts)
takes-told begun z true ts seen none = none refl
takes-told true z false ts seen none = refl
takes-told false true false ts seen none = absurd (true≢false (sym (seen refl)))
takes-told false false false ts seen none = refl

-- the parts of a visit: b, o, z and t tell whether they have no lines
all-told : (begun b o z t : Bool) (bs os zs ts : List Line) → (o ≡ true → os ≡ []) → (z ≡ true → t ≡ true) → (t ≡ true → ts ≡ [])
    → (if b then [] else beginning begun ++ bs) ++ ((if o then [] else beginning (begun || not b) ++ os) ++ ((if z then [] else beginning ((begun || not b) || not o) ++ zs) ++ ts))
    ≡ (if b && (o && (z && t)) then [] else beginning begun ++ ((if b then [] else bs) ++ (os ++ ((if z then [] else zs) ++ ts))))
all-told begun b o z t bs os zs ts no_puts seen no_takes =
    let has_put : Bool = (begun || not b) || not o in
    let front : List Line = if b then [] else beginning begun ++ bs in
    let puts : List Line = if o then [] else beginning (begun || not b) ++ os in
    let sees : List Line = if z then [] else beginning has_put ++ zs in
    let seen_lines : List Line = if z then [] else zs in
    let rest : List Line = seen_lines ++ ts in
    let none : (z && t) ≡ true → rest ≡ [] = rest-none z t seen_lines ts (if-some z zs) no_takes in
    ap (λ (ls : List Line). front ++ (puts ++ (sees ++ ls))) (takes-told has_put z t ts seen no_takes)
    ∙ ap (λ (ls : List Line). front ++ (puts ++ ls)) (two-told has_put z t zs ts no_takes)
    ∙ ap (λ (ls : List Line). front ++ ls) (two-told (begun || not b) o (z && t) os rest none)
    ∙ ap (λ (ls : List Line). front ++ (if o && (z && t) then [] else beginning (begun || not b) ++ (ls ++ rest))) (if-none o os no_puts)
    ∙ two-told begun b (o && (z && t)) bs (os ++ rest) (rest-none o (z && t) os rest no_puts none)

all-begun : (begun b o z t : Bool) → (z ≡ true → t ≡ true) → (((begun || not b) || not o) || not z) ≡ (begun || not (b && (o && (z && t))))
all-begun true b o z t seen = refl
all-begun false false o z t seen = refl
all-begun false true false z t seen = refl
all-begun false true true false t seen = refl
all-begun false true true true t seen = ap not (sym (seen refl))

after-four : (ls bs cs ds es : List Line) → (((ls ++ bs) ++ cs) ++ ds) ++ es ≡ ls ++ (bs ++ (cs ++ (ds ++ es)))
after-four ls bs cs ds es = append_assoc ((ls ++ bs) ++ cs) ds es ∙ append_assoc (ls ++ bs) cs (ds ++ es) ∙ append_assoc ls bs (cs ++ (ds ++ es))

-- ---- the visit

none-seen : (see : ℕ) (ts : List Taken) → length ts ≡ min 8 see → (see == 0) ≡ true → (length ts == 0) ≡ true
none-seen see ts many e =
    let none = eqb-true see 0 e in
    let no_takes : length ts ≡ 0 = omega (arith, many, none) in
    ap (λ (n : ℕ). n == 0) no_takes

-- as many as are due are the first that are owed
due-first : (free : ℕ) (fs left owed : List (List ℕ)) → owed ≡ fs ++ left → length fs ≡ min 8 (min free (length owed)) → fs ≡ take (min 8 free) owed
due-first free fs left owed are many =
    let same : length fs ≡ min (min 8 free) (length owed) = omega (arith, many) in
    sym (ap (take (length fs)) are ∙ take_at fs left (length fs) refl) ∙ ap (λ (n : ℕ). take n owed) same ∙ take_min (min 8 free) owed

-- looks and owed frames change nothing of what is held
held_same : (n peer back : ℕ) (fs : List (List ℕ)) (s : DomainState) → held_from n (after_deeds s (map (puts_owed peer) fs)) ≡ held_from n s
held_same n peer back [] s = refl
held_same n peer back (f ∷ fs) s = held_same n peer back fs (after_deed s (puts_owed peer f))

module _ {L : Type 0} (M : L → List LaneMove → L → Type 0) (m-both : (a b c : L) (xs ys : List LaneMove) → M a xs b → M b ys c → M a (xs ++ ys) c) where
  -- a look at the buffers, what is put, a look at the frames, and what is taken, with the lines after each
  pub visited : (i back see count : ℕ) (begun begun1 begun2 begun3 : Bool) (a b c d e : Holding L) (ls ls1 ls2 ls3 ls4 : List Line) → i < length a.parts.peers → Sound a.parts
      → Doing M (peer_at a.parts i).number (looks_back (peer_at a.parts i).number back ∷ []) (sender (Looked back) ∷ []) a b → (peer_at a.parts i).ends.free + back ≤ (peer_at a.parts i).ends.size_from → owed_at b.parts i ≡ owed_at a.parts i
      → ls1 ≡ ls ++ look_lines begun (back_line (peer_at a.parts i).number) back → begun1 ≡ (begun || not (back == 0))
      → PutsDue M i begun1 begun2 b c ls1 ls2
      → Doing M (peer_at c.parts i).number (looks_ahead (peer_at c.parts i).number see ∷ []) (receiver (receiving.Looked see) ∷ []) c d → (peer_at c.parts i).ends.shown ≤ see → see + held_from (peer_at c.parts i).number (state_of c.parts) ≤ (peer_at c.parts i).ends.size_from
      → ls3 ≡ ls2 ++ look_lines begun2 (see_line (peer_at a.parts i).number) see → begun3 ≡ (begun2 || not (see == 0))
      → Takes M i count d e ls3 ls4 → count ≡ min 8 see
      → Visits M i begun begun3 a e ls ls4
  visited i back see count begun begun1 begun2 begun3 a b c d e ls ls1 ls2 ls3 ls4 within sound looked_back fits owed_now told1 begins1 due looked_ahead shown room told3 begins3 took counted =
      let p = a.parts in
      let x = peer_at p i in
      let peer = x.number in
      let fs = due.frames in
      let bs = did-numbers M looked_back.steps a b looked_back.did in
      let cs = did-numbers M due.puts.doing.steps b c due.puts.doing.did ∙ bs in
      let ds = did-numbers M looked_ahead.steps c d looked_ahead.did ∙ cs in
      let b_peer : (peer_at b.parts i).number ≡ peer = same-number p b.parts i bs in
      let c_peer : (peer_at c.parts i).number ≡ peer = same-number p c.parts i cs in
      let d_peer : (peer_at d.parts i).number ≡ peer = same-number p d.parts i ds in
      let puts : Doing M peer (map (puts_owed peer) fs) (putting fs) b c = subst (λ (n : ℕ). Doing M n (map (puts_owed n) fs) (putting fs) b c) b_peer due.puts.doing in
      let ahead : Doing M peer (looks_ahead peer see ∷ []) (receiver (receiving.Looked see) ∷ []) c d = subst (λ (n : ℕ). Doing M n (looks_ahead n see ∷ []) (receiver (receiving.Looked see) ∷ []) c d) c_peer looked_ahead in
      let named = number_in took.numbers in
      let v : Visit = record { peer = peer; back = back; owed = fs; see = see; takes = took.takes } in
      let front_two = doing-then M m-both peer (map (puts_owed peer) fs) (looks_ahead peer see ∷ []) (putting fs) (receiver (receiving.Looked see) ∷ []) b c d puts ahead in
      let front = doing-then M m-both peer (looks_back peer back ∷ []) (map (puts_owed peer) fs ++ looks_ahead peer see ∷ []) (sender (Looked back) ∷ []) (putting fs ++ receiver (receiving.Looked see) ∷ []) a b d looked_back front_two in
      let s = before_takes (state_of p) v in
      let taken : Doing M peer (takes_named named peer took.takes) (taking s peer took.numbers took.takes) d e =
      subst (λ (u : DomainState). Doing M peer (takes_named named peer took.takes) (taking u peer took.numbers took.takes) d e) front.state
      (subst (λ (n : ℕ). Doing M n (takes_named named n took.takes) (taking (state_of d.parts) n took.numbers took.takes) d e) d_peer took.doing) in
      let last_two = doing-then M m-both peer (looks_ahead peer see ∷ []) (takes_named named peer took.takes) (receiver (receiving.Looked see) ∷ []) (taking s peer took.numbers took.takes) c d e ahead taken in
      let last_three = doing-then M m-both peer (map (puts_owed peer) fs) (looks_ahead peer see ∷ takes_named named peer took.takes) (putting fs) (receiver (receiving.Looked see) ∷ taking s peer took.numbers took.takes) b c e puts last_two in
      let all = doing-then M m-both peer (looks_back peer back ∷ []) (map (puts_owed peer) fs ++ (looks_ahead peer see ∷ takes_named named peer took.takes)) (sender (Looked back) ∷ []) (putting fs ++ (receiver (receiving.Looked see) ∷ taking s peer took.numbers took.takes)) a b e looked_back last_three in
      let within_b : i < length b.parts.peers = (let long = same-length p b.parts bs in omega (arith, long, within)) in
      let b_ends : (peer_at b.parts i).ends ≡ record (x.ends) { free = x.ends.free + back } = doing-ends M (looks_back peer back ∷ []) (sender (Looked back) ∷ []) a b i within looked_back in
      let c_ends : (peer_at c.parts i).ends ≡ after_moves (putting fs) (peer_at b.parts i).ends = doing-ends M (map (puts_owed (peer_at b.parts i).number) fs) (putting fs) b c i within_b due.puts.doing in
      let c_seen : (peer_at c.parts i).ends ≡ record (x.ends) { free = x.ends.free + back - length fs } = c_ends ∙ ap (after_moves (putting fs)) b_ends ∙ free-put fs (record (x.ends) { free = x.ends.free + back }) in
      let there : slice_get p.peers i ≡ Some x = slice_get-get_or p.peers i nobody within in
      let sized = All-at (IsSized plain) p.peers i x sound.peers.sizes there in
      let free_now : (peer_at b.parts i).ends.free ≡ x.ends.free + back = ap (λ (l : LaneSeen). l.free) b_ends in
      let are : owed_at p i ≡ fs ++ owed_at c.parts i = sym owed_now ∙ due.puts.owed in
      let many : length fs ≡ min 8 (min (x.ends.free + back) (length (owed_at p i))) = due.many ∙ ap (λ (os : List (List ℕ)). min 8 (min (peer_at b.parts i).ends.free (length os))) owed_now ∙ ap (λ (n : ℕ). min 8 (min n (length (owed_at p i)))) free_now in
      let held : held_from peer (state_of c.parts) ≡ held_from peer (state_of p) = ap (held_from peer) (puts.state ∙ ap (λ (s : DomainState). after_deeds s (map (puts_owed peer) fs)) looked_back.state) ∙ held_same peer peer back fs (after_deed (state_of p) (looks_back peer back)) in
      let takes_many : length took.takes ≡ min 8 see = took.many ∙ counted in
      let last : List Line = map (taken_line peer) took.takes in
      let front : List Line = look_lines begun (back_line peer) back in
      let no_takes : (length took.takes == 0) ≡ true → last ≡ [] = λ z. ap (λ (ts : List Taken). map (taken_line peer) ts) (none-in took.takes z) in
      let no_puts : (length fs == 0) ≡ true → map (put_line peer) fs ≡ [] = λ z. ap (λ (gs : List (List ℕ)). map (put_line peer) gs) (none-in fs z) in
      let begins2 : begun2 ≡ ((begun || not (back == 0)) || not (length fs == 0)) = due.begins ∙ ap (λ (z : Bool). z || not (length fs == 0)) begins1 in
      let told2 : ls2 ≡ ls1 ++ put_lines begun1 peer fs = due.puts.told ∙ ap (λ (n : ℕ). ls1 ++ put_lines begun1 n fs) b_peer in
      let told4 : ls4 ≡ ls3 ++ last = took.told ∙ ap (λ (n : ℕ). ls3 ++ map (taken_line n) took.takes) d_peer in
      record {
        visit = v;
        numbers = took.numbers;
        peer_is = refl;
        allowed = record {
          at = peer_in plain (parts_read p) p.table x;
          known = get-position (is_numbered peer) (state_of p).peers ∙ find-place plain (parts_read p) p.table i p.peers x sound.peers.rising there;
          back_fits = omega (arith, fits);
          puts_due = due-first (x.ends.free + back) fs (owed_at c.parts i) (owed_at p i) are many;
          sees_shown = let same = ap (λ (l : LaneSeen). l.shown) c_seen in omega (arith, shown, same);
          see_fits = let same = ap (λ (l : LaneSeen). l.size_from) c_seen in let number = ap (λ (n : ℕ). held_from n (state_of c.parts)) c_peer in let nameless = held-unnamed peer (state_of p) in omega (arith, room, same, held, number, nameless);
          takes_first = takes_many;
          may = visit-may (state_of p) v took.numbers all.may;
        };
        each = took.each ∙ sym took.many;
        doing = all;
        told =
            told4
            ∙ ap (λ (zs : List Line). zs ++ last) (told3 ∙ ap (λ (zs : List Line). zs ++ look_lines begun2 (see_line peer) see) (told2 ∙ ap (λ (zs : List Line). zs ++ put_lines begun1 peer fs) told1))
            ∙ after-four ls front (put_lines begun1 peer fs) (look_lines begun2 (see_line peer) see) last
            ∙ ap (λ (z : Bool). ls ++ (front ++ (put_lines z peer fs ++ (look_lines begun2 (see_line peer) see ++ last)))) begins1
            ∙ ap (λ (z : Bool). ls ++ (front ++ (put_lines (begun || not (back == 0)) peer fs ++ (look_lines z (see_line peer) see ++ last)))) begins2
            ∙ ap (λ (zs : List Line). ls ++ (front ++ (zs ++ (look_lines ((begun || not (back == 0)) || not (length fs == 0)) (see_line peer) see ++ last)))) (puts-told (begun || not (back == 0)) peer fs)
            ∙ ap (λ (zs : List Line). ls ++ zs) (all-told begun (back == 0) (length fs == 0) (see == 0) (length took.takes == 0) (back_line peer back ∷ []) (map (put_line peer) fs) (see_line peer see ∷ []) last no_puts (none-seen see took.takes takes_many) no_takes);
        begins = begins3 ∙ ap (λ (z : Bool). z || not (see == 0)) begins2 ∙ all-begun begun (back == 0) (length fs == 0) (see == 0) (length took.takes == 0) (none-seen see took.takes takes_many);
      }
