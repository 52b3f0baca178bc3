-- What linked places keep where one more is linked in or one is taken out.
use Rattle.std.proofs.Common.{◌≡◌, ◌≢◌, ℕ, zero, suc, ◌<◌, List, [], ◌∷◌, ◌++◌, length, set, refl, sym, ap, subst, ◌∙◌, arith, append-nil, append_assoc}
use Rattle.std.specs.List.{AllByRecursion}
use Rattle.std.proofs.ByRecursion.{All-append}
use Rattle.std.proofs.lemmas.List.{get_or-set_same, get_or-set_other}
use Rattle.message_queue.specs.Linked.{at, walk, IsLinked, IsChain, last_of, Lacks, Differ}

-- ---- parts of lists

pub All-left : {X : Type 0} (P : X → Type 0) (xs ys : List X) → AllByRecursion P (xs ++ ys) → AllByRecursion P xs
All-left P [] ys all = tt
All-left P (x ∷ xs) ys all = (all.0, All-left P xs ys all.1)

pub All-right : {X : Type 0} (P : X → Type 0) (xs ys : List X) → AllByRecursion P (xs ++ ys) → AllByRecursion P ys
All-right P [] ys all = all
All-right P (x ∷ xs) ys all = All-right P xs ys all.1

All-insert : {X : Type 0} (P : X → Type 0) (xs : List X) (o : X) (ys : List X) → P o → AllByRecursion P (xs ++ ys) → AllByRecursion P (xs ++ o ∷ ys)
All-insert P [] o ys here all = (here, all)
All-insert P (x ∷ xs) o ys here all = (all.0, All-insert P xs o ys here all.1)

pub All-take_out : {X : Type 0} (P : X → Type 0) (xs : List X) (o : X) (ys : List X) → AllByRecursion P (xs ++ o ∷ ys) → P o × AllByRecursion P (xs ++ ys)
All-take_out P [] o ys all = all
All-take_out P (x ∷ xs) o ys all = let rest = All-take_out P xs o ys all.1 in (rest.0, (all.0, rest.1))

pub All-last : (P : ℕ → Type 0) (x : ℕ) (xs : List ℕ) → AllByRecursion P (x ∷ xs) → P (last_of x xs)
All-last P x [] all = all.0
All-last P x (y ∷ ys) all = All-last P y ys all.1

pub Lacks-sym : (x i : ℕ) → x ≢ i → i ≢ x
Lacks-sym x i differs = λ e. differs (sym e)

-- ---- lists whose places differ

pub Differ-left : (xs ys : List ℕ) → Differ (xs ++ ys) → Differ xs
Differ-left [] ys d = tt
Differ-left (x ∷ xs) ys d = (All-left (λ o. o ≢ x) xs ys d.0, Differ-left xs ys d.1)

pub Differ-right : (xs ys : List ℕ) → Differ (xs ++ ys) → Differ ys
Differ-right [] ys d = d
Differ-right (x ∷ xs) ys d = Differ-right xs ys d.1

-- none of the former is among the latter
pub Differ-across : (xs ys : List ℕ) → Differ (xs ++ ys) → AllByRecursion (λ x. Lacks ys x) xs
Differ-across [] ys d = tt
Differ-across (x ∷ xs) ys d = (All-right (λ o. o ≢ x) xs ys d.0, Differ-across xs ys d.1)

pub Differ-take_out : (xs : List ℕ) (o : ℕ) (ys : List ℕ) → Differ (xs ++ o ∷ ys) → Lacks (xs ++ ys) o × Differ (xs ++ ys)
Differ-take_out [] o ys d = d
Differ-take_out (x ∷ xs) o ys d =
    let rest = Differ-take_out xs o ys d.1 in
    let out = All-take_out (λ y. y ≢ x) xs o ys d.0 in
    ((Lacks-sym o x out.0, rest.0), (out.1, rest.1))

Differ-insert : (xs : List ℕ) (o : ℕ) (ys : List ℕ) → Lacks (xs ++ ys) o → Differ (xs ++ ys) → Differ (xs ++ o ∷ ys)
Differ-insert [] o ys lacks d = (lacks, d)
Differ-insert (x ∷ xs) o ys lacks d =
    (All-insert (λ y. y ≢ x) xs o ys (Lacks-sym x o lacks.0) d.0, Differ-insert xs o ys lacks.1 d.1)

-- ---- taken out of one part, into the next

pub All-moved : {X : Type 0} (P : X → Type 0) (xs : List X) (o : X) (ys zs : List X) → AllByRecursion P ((xs ++ o ∷ ys) ++ zs) → AllByRecursion P ((xs ++ ys) ++ o ∷ zs)
All-moved {X} P xs o ys zs all =
    let out = All-take_out P xs o (ys ++ zs) (subst (λ (l : List X). AllByRecursion P l) (append_assoc xs (o ∷ ys) zs) all) in
    All-insert P (xs ++ ys) o zs out.0 (subst (λ (l : List X). AllByRecursion P l) (sym (append_assoc xs ys zs)) out.1)

pub Differ-moved : (xs : List ℕ) (o : ℕ) (ys zs : List ℕ) → Differ ((xs ++ o ∷ ys) ++ zs) → Differ ((xs ++ ys) ++ o ∷ zs)
Differ-moved xs o ys zs d =
    let out = Differ-take_out xs o (ys ++ zs) (subst Differ (append_assoc xs (o ∷ ys) zs) d) in
    let back = sym (append_assoc xs ys zs) in
    Differ-insert (xs ++ ys) o zs (subst (λ (l : List ℕ). Lacks l o) back out.0) (subst Differ back out.1)

-- ---- walks

pub walk-set : (next : List ℕ) (i v n h : ℕ) → Lacks (walk next n h) i → walk (set next i v) n h ≡ walk next n h
walk-set next i v zero h lacks = refl
walk-set next i v (suc n) h lacks =
    ap (λ (m : ℕ). h ∷ walk (set next i v) n m) (get_or-set_other next i h v 0 lacks.0) ∙ ap (λ (l : List ℕ). h ∷ l) (walk-set next i v n (at next h) lacks.1)

-- a walk along a linked list is that list
pub walk-linked : (next prev : List ℕ) (a : ℕ) (os : List ℕ) (b : ℕ) → IsLinked next prev a os b → walk next (length os) (at next a) ≡ os
walk-linked next prev a [] b l = refl
walk-linked next prev a (o ∷ os) b l =
    ap (λ (h : ℕ). h ∷ walk next (length os) (at next h)) l.0 ∙ ap (λ (l : List ℕ). o ∷ l) (walk-linked next prev o os b l.2)

pub length-walk : (next : List ℕ) (n h : ℕ) → length (walk next n h) ≡ n
length-walk next zero h = refl
length-walk next (suc n) h = ap suc (length-walk next n (at next h))

-- ---- linked both ways

pub linked-set_next : (next prev : List ℕ) (i v a : ℕ) (os : List ℕ) (b : ℕ) → Lacks (a ∷ os) i → IsLinked next prev a os b → IsLinked (set next i v) prev a os b
linked-set_next next prev i v a [] b lacks l = (get_or-set_other next i a v 0 lacks.0 ∙ l.0, l.1)
linked-set_next next prev i v a (o ∷ os) b lacks l =
    (get_or-set_other next i a v 0 lacks.0 ∙ l.0, l.1, linked-set_next next prev i v o os b lacks.1 l.2)

linked-set_prev : (next prev : List ℕ) (i v a : ℕ) (os : List ℕ) (b : ℕ) → Lacks (os ++ b ∷ []) i → IsLinked next prev a os b → IsLinked next (set prev i v) a os b
linked-set_prev next prev i v a [] b lacks l = (l.0, get_or-set_other prev i b v 0 lacks.0 ∙ l.1)
linked-set_prev next prev i v a (o ∷ os) b lacks l =
    (l.0, get_or-set_other prev i o v 0 lacks.0 ∙ l.1, linked-set_prev next prev i v o os b lacks.1 l.2)

-- the one before the end is the start or one of these
pub prev-all : (P : ℕ → Type 0) (next prev : List ℕ) (a : ℕ) (os : List ℕ) (b : ℕ) → AllByRecursion P (a ∷ os) → IsLinked next prev a os b → P (at prev b)
prev-all P next prev a [] b all l = subst P (sym l.1) all.0
prev-all P next prev a (o ∷ os) b all l = prev-all P next prev o os b all.1 l.2

pub next-all : (P : ℕ → Type 0) (next prev : List ℕ) (a : ℕ) (os : List ℕ) (b : ℕ) → AllByRecursion P (os ++ b ∷ []) → IsLinked next prev a os b → P (at next a)
next-all P next prev a [] b all l = subst P (sym l.0) all.0
next-all P next prev a (o ∷ os) b all l = subst P (sym l.0) all.0

pub linked-split : (next prev : List ℕ) (a : ℕ) (xs : List ℕ) (o : ℕ) (ys : List ℕ) (b : ℕ) → IsLinked next prev a (xs ++ o ∷ ys) b → IsLinked next prev a xs o × IsLinked next prev o ys b
linked-split next prev a [] o ys b l = ((l.0, l.1), l.2)
linked-split next prev a (x ∷ xs) o ys b l =
    let rest = linked-split next prev x xs o ys b l.2 in ((l.0, l.1, rest.0), rest.1)

linked-join : (next prev : List ℕ) (a : ℕ) (xs : List ℕ) (o : ℕ) (ys : List ℕ) (b : ℕ) → IsLinked next prev a xs o → IsLinked next prev o ys b → IsLinked next prev a (xs ++ o ∷ ys) b
linked-join next prev a [] o ys b l m = (l.0, l.1, m)
linked-join next prev a (x ∷ xs) o ys b l m = (l.0, l.1, linked-join next prev x xs o ys b l.2 m)

-- the last of these leads to another end
linked-to : (next prev : List ℕ) (a : ℕ) (os : List ℕ) (b m : ℕ) → Differ (a ∷ os) → Lacks os m → AllByRecursion (λ o. o < length next) (a ∷ os) → m < length prev → IsLinked next prev a os b → IsLinked (set next (at prev b) m) (set prev m (at prev b)) a os m
linked-to next prev a [] b m d lacks inside lt l =
    (ap (λ (k : ℕ). at (set next k m) a) l.1 ∙ get_or-set_same next a m 0 inside.0, get_or-set_same prev m (at prev b) 0 lt ∙ l.1)
linked-to next prev a (o ∷ os) b m d lacks inside lt l =
    let before : at prev b ≢ a = prev-all (λ y. y ≢ a) next prev o os b d.0 l.2 in
    (get_or-set_other next (at prev b) a m 0 (Lacks-sym (at prev b) a before) ∙ l.0, get_or-set_other prev m o (at prev b) 0 lacks.0 ∙ l.1, linked-to next prev o os b m d.1 lacks.1 inside.1 lt l.2)

-- one more is linked in last
pub linked-appended : (next prev os : List ℕ) (f : ℕ) → Differ (0 ∷ os) → Lacks (0 ∷ os) f → AllByRecursion (λ o. o < length next) (0 ∷ os) → f < length prev → f < length (set next (at prev 0) f) → 0 < length (set prev f (at prev 0)) → IsLinked next prev 0 os 0 → IsLinked (set (set next (at prev 0) f) f 0) (set (set prev f (at prev 0)) 0 f) 0 (os ++ f ∷ []) 0
linked-appended next prev os f d lacks inside lt lt_next lt_prev l =
    let p = at prev 0 in
    let to = linked-to next prev 0 os 0 f d lacks.1 inside lt l in
    let kept = linked-set_next (set next p f) (set prev f p) f 0 0 os f lacks to in
    let others : Lacks (os ++ f ∷ []) 0 = All-append (λ (o : ℕ). o ≢ 0) os (f ∷ []) d.0 (Lacks-sym 0 f lacks.0, tt) in
    let front = linked-set_prev (set (set next p f) f 0) (set prev f p) 0 f 0 os f others kept in
    linked-join (set (set next p f) f 0) (set (set prev f p) 0 f) 0 os f [] 0 front (get_or-set_same (set next p f) f 0 0 lt_next, get_or-set_same (set prev f p) 0 f 0 lt_prev)

-- one is taken out
pub linked-taken : (next prev xs : List ℕ) (o : ℕ) (ys : List ℕ) → Differ (0 ∷ (xs ++ o ∷ ys)) → AllByRecursion (λ o. o < length next) (0 ∷ (xs ++ o ∷ ys)) → length prev ≡ length next → IsLinked next prev 0 (xs ++ o ∷ ys) 0 → IsLinked (set next (at prev o) (at next o)) (set prev (at next o) (at prev o)) 0 (xs ++ ys) 0
linked-taken next prev xs o ys d inside same l = go ys d inside (linked-split next prev 0 xs o ys 0 l)
  where
    go : (ys : List ℕ) → Differ (0 ∷ (xs ++ o ∷ ys)) → AllByRecursion (λ o. o < length next) (0 ∷ (xs ++ o ∷ ys)) → IsLinked next prev 0 xs o × IsLinked next prev o ys 0 → IsLinked (set next (at prev o) (at next o)) (set prev (at next o) (at prev o)) 0 (xs ++ ys) 0
    go [] d inside l =
        let end : at next o ≡ 0 = l.1.0 in
        let lt : 0 < length prev = let z : 0 < length next = inside.0 in omega arith in
        let to = linked-to next prev 0 xs o 0 (Differ-left (0 ∷ xs) (o ∷ []) d) (All-left (λ y. y ≢ 0) xs (o ∷ []) d.0) (All-left (λ o. o < length next) (0 ∷ xs) (o ∷ []) inside) lt l.0 in
        subst (λ (k : ℕ). IsLinked (set next (at prev o) k) (set prev k (at prev o)) 0 (xs ++ []) 0) (sym end) (subst (λ (l : List ℕ). IsLinked (set next (at prev o) 0) (set prev 0 (at prev o)) 0 l 0) (sym (append-nil xs)) to)
    go (y ∷ ys) d inside l =
        let n : at next o ≡ y = l.1.0 in
        let across = Differ-across (0 ∷ xs) (o ∷ y ∷ ys) d in
        let behind = Differ-right (0 ∷ xs) (o ∷ y ∷ ys) d in
        let within = All-right (λ o. o < length next) (0 ∷ xs) (o ∷ y ∷ ys) inside in
        let lt : y < length prev = let z : y < length next = within.1.0 in omega arith in
        let apart : Lacks (xs ++ ys) y = (Differ-take_out xs y ys (Differ-take_out xs o (y ∷ ys) d.1).1).0 in
        let apart_left = All-left (λ z. z ≢ y) xs ys apart in
        let to = linked-to next prev 0 xs o y (Differ-left (0 ∷ xs) (o ∷ y ∷ ys) d) apart_left (All-left (λ o. o < length next) (0 ∷ xs) (o ∷ y ∷ ys) inside) lt l.0 in
        let lacks_prev : Lacks (o ∷ y ∷ ys) (at prev o) = prev-all (λ i. Lacks (o ∷ y ∷ ys) i) next prev 0 xs o across l.0 in
        let kept = linked-set_next next prev (at prev o) y y ys 0 lacks_prev.1 l.1.2 in
        let zero_apart : y ≢ 0 = (across.0).1.0 in
        let ends : Lacks (ys ++ 0 ∷ []) y = All-append (λ (z : ℕ). z ≢ y) ys (0 ∷ []) behind.1.0 (Lacks-sym y 0 zero_apart, tt) in
        let kept_prev = linked-set_prev (set next (at prev o) y) prev y (at prev o) y ys 0 ends kept in
        subst (λ (k : ℕ). IsLinked (set next (at prev o) k) (set prev k (at prev o)) 0 (xs ++ y ∷ ys) 0) (sym n) (linked-join (set next (at prev o) y) (set prev y (at prev o)) 0 xs y ys 0 to kept_prev)

-- ---- of one priority

pub chain-set : (same : List ℕ) (i v h : ℕ) (os : List ℕ) → Lacks os i → IsChain same h os → IsChain (set same i v) h os
chain-set same i v h [] lacks l = l
chain-set same i v h (o ∷ os) lacks l =
    (l.0, subst (λ (k : ℕ). IsChain (set same i v) k os) (sym (get_or-set_other same i o v 0 lacks.0)) (chain-set same i v (at same o) os lacks.1 l.1))

-- one more at the end of some
pub chain-longer : (same : List ℕ) (h o : ℕ) (os : List ℕ) (f : ℕ) → Differ (o ∷ os) → Lacks (o ∷ os) f → at same f ≡ 0 → AllByRecursion (λ o. o < length same) (o ∷ os) → IsChain same h (o ∷ os) → IsChain (set same (last_of o os) f) h (o ∷ (os ++ f ∷ []))
chain-longer same h o [] f d lacks ends inside l =
    (l.0, (get_or-set_same same o f 0 inside.0, get_or-set_other same o f f 0 (Lacks-sym o f lacks.0) ∙ ends))
chain-longer same h o (x ∷ xs) f d lacks ends inside l =
    let apart : last_of x xs ≢ o = All-last (λ y. y ≢ o) x xs d.0 in
    (l.0, subst (λ (k : ℕ). IsChain (set same (last_of x xs) f) k (x ∷ (xs ++ f ∷ []))) (sym (get_or-set_other same (last_of x xs) o f 0 (Lacks-sym (last_of x xs) o apart))) (chain-longer same (at same o) x xs f d.1 lacks.1 ends inside.1 l.1))

pub ends-longer : (o : ℕ) (os : List ℕ) (f : ℕ) → f ≡ last_of o (os ++ f ∷ [])
ends-longer o [] f = refl
ends-longer o (x ∷ xs) f = ends-longer x xs f
