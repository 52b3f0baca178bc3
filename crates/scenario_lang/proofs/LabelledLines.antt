-- A call line that is read has its label, and gives a request or a packet where its label is in place.
use Rattle.std.proofs.Common.{◌≡◌, ℕ, Bool, true, false, ◌||◌, List, [], ◌∷◌, Option, Some, None, refl, sym, ap, ◌∙◌, subst, inl, inr}
use Rattle.std.specs.Prelude.{Result, Ok, Err, IfSome, option_map}
use Rattle.arrayvec.specs.ArrayVec.{ArrayVec}
use Rattle.board_model.specs.declared.scenario.Call.{Call}
use Rattle.board_model.specs.declared.scenario.CallLine.{CallLine}
use Rattle.board_model.specs.declared.scenario.Scenario.{Scenario}
use Rattle.board_model.specs.declared.reason.LineReason.{LineReason}
use Rattle.board_model.specs.declared.reason.LineReason.TheVariants.{Form}
use Rattle.board_model.specs.FileWords.{numeral, is_label}
use Rattle.board_model.specs.Forms.{bits_told, label_of, gives_request, gives_packet, Values, Makes, made, form, CallParts}
use Rattle.board_model.specs.LineReasons.{tells_wrong_label}
use Rattle.board_model.specs.Scenario.{label_in}
use Rattle.board_model.specs.declared.form.ArgumentKind.{ArgumentKind}
use Rattle.board_model.specs.declared.form.Callee.{Callee}
use Rattle.board_model.specs.declared.form.Callee.TheVariants as callee
use Rattle.scenario_lang.specs.Reading.{◌>>=◌, argument_in, call_from, call_in, told_in, number_in, tries_in, call_line_in}
use Rattle.scenario_lang.specs.Reading.{label_in as label_read}
use Rattle.scenario_lang.proofs.Options.{cases_bool}
use Rattle.scenario_lang.proofs.CallLemmas.{call_by-row}

-- each reader of a chain that gives a value has given one
pub bind_ok : {A B : Type 0} (r : Result A LineReason) (f : A → Result B LineReason) (y : B) → (r >>= f) ≡ Ok y → (x : A) × (r ≡ Ok x) × (f x ≡ Ok y)
bind_ok (Ok x) f y h = (x, refl, h)
bind_ok (Err reason) f y h = absurd cc

ok_is : {A : Type 0} (x y : A) → ◌≡◌ {A = Result A LineReason} (Ok x) (Ok y) → x ≡ y
ok_is x y h = cc

abbrev label_items : Option (ArrayVec ℕ) → Option (List ℕ)
label_items label = option_map (λ l. l.items) label

label_is : (word : List ℕ) (l : ArrayVec ℕ) → label_read word ≡ Ok l → l.items ≡ word
label_is word l h = elim (cases_bool (is_label word)) [
  | inl here ↦
      let read : ◌≡◌ {A = Result (ArrayVec ℕ) LineReason} (Ok (label_of word)) (Ok l) = rw here at h in
      ap (λ (x : ArrayVec ℕ). x.items) (sym (ok_is (label_of word) l read))
  | inr other ↦
      let read : ◌≡◌ {A = Result (ArrayVec ℕ) LineReason} (Err Form) (Ok l) = rw other at h in
      absurd cc
]

told_is : (told : Option (List ℕ)) (l : Option (ArrayVec ℕ)) → told_in told ≡ Ok l → label_items l ≡ told
told_is None l h = ap label_items (sym (ok_is None l h))
told_is (Some w) l h =
    let k = bind_ok (label_read w) (λ x. Ok (Some x)) l h in
    ap label_items (sym (ok_is (Some k.0) l k.2)) ∙ ap (λ (t : List ℕ). Some t) (label_is w k.0 k.1)

-- the parts of a call line one after the other
abbrev chain : Result ℕ LineReason → Result ℕ LineReason → Result (Option ℕ) LineReason → Result (Option (ArrayVec ℕ)) LineReason → Result Call LineReason → Result CallLine LineReason
chain d n t l c = d >>= λ d. n >>= λ n. t >>= λ t. l >>= λ l. c >>= λ c. Ok (record { domain = d; node = n; label = l; tries = t; call = c })

record IsChain (l : Result (Option (ArrayVec ℕ)) LineReason) (c : Result Call LineReason) (line : CallLine) : Type 0 where
  pub label : l ≡ Ok line.label
  pub call : c ≡ Ok line.call

is_chain : (d n : Result ℕ LineReason) (t : Result (Option ℕ) LineReason) (l : Result (Option (ArrayVec ℕ)) LineReason) (c : Result Call LineReason) (line : CallLine) → chain d n t l c ≡ Ok line → IsChain l c line
is_chain (Err r) n t l c line h = absurd cc
is_chain (Ok d) (Err r) t l c line h = absurd cc
is_chain (Ok d) (Ok n) (Err r) l c line h = absurd cc
is_chain (Ok d) (Ok n) (Ok t) (Err r) c line h = absurd cc
is_chain (Ok d) (Ok n) (Ok t) (Ok l) (Err r) line h = absurd cc
is_chain (Ok d) (Ok n) (Ok t) (Ok l) (Ok c) line h =
    let e : record { domain = d; node = n; label = l; tries = t; call = c } ≡ line = ok_is (record { domain = d; node = n; label = l; tries = t; call = c }) line h in
    record { label = ap (λ (z : CallLine). Ok z.label) e; call = ap (λ (z : CallLine). Ok z.call) e }

line_chain : (p : CallParts) (line : CallLine) → call_line_in p ≡ Ok line → IsChain (told_in p.told) (call_in p.callee p.arguments) line
unfolding call_line_in
line_chain p line h = is_chain (number_in (numeral 0 7 p.domain)) (number_in (numeral 0 15 p.node)) (tries_in p.tries) (told_in p.told) (call_in p.callee p.arguments) line h

pub line_label : (p : CallParts) (line : CallLine) → call_line_in p ≡ Ok line → label_in line ≡ p.told
line_label p line h = told_is p.told line.label (line_chain p line h).label

-- what a label can be given for: a request, a packet or both
abbrev gives : Call → Bool
gives call = gives_request call || gives_packet call

-- a call with a label gives one
gives_made : (c : Callee) (arguments : Values (form c).arguments) → (form c).labelled ≡ gives (made (form c).arguments (form c).makes arguments)
gives_made callee.Create arguments = refl
gives_made callee.Delete arguments = refl
gives_made callee.Lookup arguments = refl
gives_made callee.MsgSend arguments = refl
gives_made callee.MsgRecv arguments = refl
gives_made callee.MsgRecvI arguments = refl
gives_made callee.MsgAvailable arguments = refl
gives_made callee.Connect arguments = refl
gives_made callee.OpenSend arguments = refl
gives_made callee.OpenRecv arguments = refl
gives_made callee.PktSend arguments = refl
gives_made callee.PktRecv arguments = refl
gives_made callee.PktRecvI arguments = refl
gives_made callee.Release arguments = refl
gives_made callee.SclSend arguments = refl
gives_made callee.SclRecv arguments = refl
gives_made callee.CloseSend arguments = refl
gives_made callee.CloseRecv arguments = refl
gives_made callee.Test arguments = refl
gives_made callee.Wait arguments = refl
gives_made callee.WaitAny arguments = refl
gives_made callee.Cancel arguments = refl
gives_made callee.Raw arguments = refl
gives_made callee.Turn arguments = refl

-- a call that is read is made of some arguments
is_made : (ks : List ArgumentKind) (bits : ℕ) (words : List (List ℕ)) (makes : Makes ks) (call : Call) → call_from ks bits words makes ≡ Ok call → (arguments : Values ks) × (made ks makes arguments ≡ call)
is_made [] bits words makes call h = (tt, ok_is makes call h)
is_made (k ∷ ks) bits words makes call h =
    let first = bind_ok (argument_in k bits words) (λ x. call_from ks (bits_told k x.0) x.1 (makes x.0)) call h in
    let rest = is_made ks (bits_told k first.0.0) first.0.1 (makes first.0.0) call first.2 in
    ((first.0.0, rest.0), rest.1)

call_gives : (c : Callee) (words : List (List ℕ)) (call : Call) → call_in c words ≡ Ok call → (form c).labelled ≡ true → gives call ≡ true
call_gives c words call h labelled =
    let arguments = is_made (form c).arguments 0 words (form c).makes call (sym (call_by-row c words) ∙ h) in
    ap gives (sym arguments.1) ∙ sym (gives_made c arguments.0) ∙ labelled

pub line_gives : (p : CallParts) (line : CallLine) → call_line_in p ≡ Ok line → (form p.callee).labelled ≡ true → gives line.call ≡ true
line_gives p line h labelled = call_gives p.callee p.arguments line.call (line_chain p line h).call labelled

right_told : (above : Scenario) (labelled : Bool) (d : ℕ) (label : List ℕ) → tells_wrong_label above labelled d (Some label) ≡ false → labelled ≡ true
right_told above true d label h = refl
right_told above false d label h = absurd cc

-- a line whose label is in place gives one
pub line_right : (above : Scenario) (p : CallParts) (line : CallLine) → call_line_in p ≡ Ok line → tells_wrong_label above (form p.callee).labelled line.domain p.told ≡ false → IfSome (label_in line) (λ label. gives line.call ≡ true)
line_right above p line h right = subst (λ (t : Option (List ℕ)). IfSome t (λ label. gives line.call ≡ true)) (sym (line_label p line h)) (told_right above p line p.told h right)
  where
    told_right : (above : Scenario) (p : CallParts) (line : CallLine) (told : Option (List ℕ)) → call_line_in p ≡ Ok line → tells_wrong_label above (form p.callee).labelled line.domain told ≡ false → IfSome told (λ label. gives line.call ≡ true)
    told_right above p line None h right = tt
    told_right above p line (Some label) h right = line_gives p line h (right_told above (form p.callee).labelled line.domain label right)
