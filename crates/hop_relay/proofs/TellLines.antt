-- The lines of a relay, each as a line that may follow the earlier lines of its domain: it fits the form of its call, the label that it tells is
-- new, and the label that it names is told above it.
use Rattle.std.proofs.Common.{◌≡◌, ℕ, ◌+◌, ◌≤◌, ◌<◌, ◌^◌, Bool, true, false, not, ◌&&◌, ◌||◌, List, length, Some, refl, ap, ◌∙◌, arith}
use Rattle.std.specs.Prelude.{codes, decimal, option_map}
use Rattle.std.specs.List.{list_any, AllByRecursion}
use Rattle.mc_base.specs.Limits.{asked_limit, try_limit}
use Rattle.mc_base.specs.declared.channel.Kind.TheVariants.{Packet}
use Rattle.board_model.specs.declared.scenario.Call.TheVariants.{Create, Lookup, Connect, OpenSend, OpenRecv, PktSend, PktRecv, Release, CloseSend, CloseRecv}
use Rattle.board_model.specs.declared.scenario.CallLine.{CallLine}
use Rattle.board_model.specs.declared.scenario.Scenario.{Scenario}
use Rattle.board_model.specs.declared.form.Callee.{Callee}
use Rattle.board_model.specs.declared.form.Callee.TheVariants as callee
use Rattle.board_model.specs.Scenario.{label_in}
use Rattle.board_model.specs.Grammar.{spaced, argument_texts, form_words, call_words, IsLawfulName}
use Rattle.board_model.specs.FileWords.{is_label}
use Rattle.board_model.specs.Forms.{Values, form, label_of, told_fits, tries_fit, arguments_labels, gives_request, gives_packet}
use Rattle.board_model.specs.LineReasons.{is_domain, tells, tells_wrong_label, names_wrong_label, puts_sound}
use Rattle.board_model.specs.MadeLines.{once, tried, labelled, labelled_tried, waited}
use Rattle.board_model.proofs.LawfulForms.{AreFit, call_with}
use Rattle.board_model.proofs.LawfulRanges.{TriesFit}
use Rattle.scenario_lang.proofs.CanonicalCallLines.{FitsHere, line_words, call-read}
use Rattle.board_runner.specs.ActorLogs.{MayFollow, with_calls, is_raw}
use Rattle.hop_relay.specs.Roles.{receiver_of}

-- ---- what all lines share

-- a line of the domain, with arguments that fit its form and no label out of place
line_may : (d : ℕ) (earlier : List CallLine) (k : CallLine) (c : Callee) (arguments : Values (form c).arguments) → d ≤ 7 → k.domain ≡ d → k.node ≤ 15 → is_raw k.call ≡ false → call_words k.call ≡ form_words c arguments → call_with c arguments ≡ k.call → puts_sound k.call ≡ false → TriesFit k.tries
    → tries_fit (form c).tried (option_map decimal k.tries) ≡ true
    → AreFit (form c).arguments 0 arguments
    → told_fits (form c).labelled (label_in k) ≡ true
    → ((board : Scenario) → (tells_wrong_label (with_calls board earlier) (form c).labelled k.domain (label_in k) || names_wrong_label (with_calls board earlier) k.domain (arguments_labels (form c).arguments (argument_texts (form c).arguments arguments))) ≡ false)
    → MayFollow d earlier k
line_may d earlier k c arguments small own node not_raw says makes faulty tries tried_right fit label_fits label_right = record {
  own = own;
  not_raw = not_raw;
  told = λ board on.
      let fits : FitsHere (with_calls board earlier) k c arguments = record {
        says = says;
        makes = makes;
        told_domain = ap (is_domain board) own ∙ on;
        domain_fits = omega (arith, small, own);
        node_fits = node;
        tries_within = tries;
        tried_right = tried_right;
        arguments_fit = fit;
        label_fits = label_fits;
        label_right = label_right board;
        frame_faulty = faulty;
      } in
      let r = call-read (with_calls board earlier) k c arguments fits in
      record { text = spaced (line_words k); passes = r.passes; tells = r.tells };
}

tries_most : TriesFit (Some try_limit)
tries_most = (omega arith, omega arith)

far_lawful : (d : ℕ) → d ≤ 6 → IsLawfulName (receiver_of (d + 1))
far_lawful d small = (omega (arith, small), omega arith, omega arith)

module _ (d : ℕ) (earlier : List CallLine) where
  -- ---- lines without a label

  pub create_may : (port : ℕ) → d ≤ 7 → port < 2 ^ 16 → MayFollow d earlier (once d (Create port))
  create_may port small fits = line_may d earlier (once d (Create port)) callee.Create (port, tt) small refl (omega arith) refl refl refl refl tt refl (fits, tt) refl (λ board. refl)

  pub open_recv_may : d ≤ 7 → MayFollow d earlier (tried d (OpenRecv 2 Packet))
  open_recv_may small = line_may d earlier (tried d (OpenRecv 2 Packet)) callee.OpenRecv (2, (Packet, tt)) small refl (omega arith) refl refl refl refl tries_most refl (omega arith, (tt, tt)) refl (λ board. refl)

  pub open_send_may : d ≤ 7 → MayFollow d earlier (tried d (OpenSend 1 Packet))
  open_send_may small = line_may d earlier (tried d (OpenSend 1 Packet)) callee.OpenSend (1, (Packet, tt)) small refl (omega arith) refl refl refl refl tries_most refl (omega arith, (tt, tt)) refl (λ board. refl)

  pub send_may : (bytes : List ℕ) → d ≤ 7 → length bytes ≤ asked_limit → AllByRecursion (λ b. b < 256) bytes → MayFollow d earlier (tried d (PktSend 1 bytes))
  send_may bytes small short fit = line_may d earlier (tried d (PktSend 1 bytes)) callee.PktSend (1, (bytes, tt)) small refl (omega arith) refl refl refl refl tries_most refl (omega arith, ((short, fit), tt)) refl (λ board. refl)

  pub close_send_may : d ≤ 7 → MayFollow d earlier (tried d (CloseSend 1))
  close_send_may small = line_may d earlier (tried d (CloseSend 1)) callee.CloseSend (1, tt) small refl (omega arith) refl refl refl refl tries_most refl (omega arith, tt) refl (λ board. refl)

  pub close_recv_may : d ≤ 7 → MayFollow d earlier (tried d (CloseRecv 2))
  close_recv_may small = line_may d earlier (tried d (CloseRecv 2)) callee.CloseRecv (2, tt) small refl (omega arith) refl refl refl refl tries_most refl (omega arith, tt) refl (λ board. refl)

  -- ---- lines that tell a label, which is new

  pub lookup_may : d ≤ 6 → list_any (tells d (codes "a")) earlier ≡ false → MayFollow d earlier (labelled d (codes "a") (Lookup (receiver_of (d + 1))))
  lookup_may small fresh =
      line_may d earlier (labelled d (codes "a") (Lookup (receiver_of (d + 1)))) callee.Lookup (receiver_of (d + 1), tt) (omega (arith, small)) refl (omega arith) refl refl refl refl tt refl (far_lawful d small, tt) refl
      (λ board. ap (λ (b : Bool). b || false) fresh)

  pub connect_may : d ≤ 6 → list_any (tells d (codes "c")) earlier ≡ false → MayFollow d earlier (labelled_tried d (codes "c") (Connect 1 (receiver_of (d + 1)) Packet))
  connect_may small fresh =
      line_may d earlier (labelled_tried d (codes "c") (Connect 1 (receiver_of (d + 1)) Packet)) callee.Connect (1, (receiver_of (d + 1), (Packet, tt))) (omega (arith, small)) refl (omega arith) refl refl refl refl tries_most refl
      (omega arith, (far_lawful d small, (tt, tt))) refl (λ board. ap (λ (b : Bool). b || false) fresh)

  pub receive_may : (label : List ℕ) → d ≤ 7 → is_label label ≡ true → list_any (tells d label) earlier ≡ false → MayFollow d earlier (labelled_tried d label (PktRecv 2))
  receive_may label small is fresh =
      line_may d earlier (labelled_tried d label (PktRecv 2)) callee.PktRecv (2, tt) small refl (omega arith) refl refl refl refl tries_most refl (omega arith, tt) is (λ board. ap (λ (b : Bool). b || false) fresh)

  -- ---- lines that name a label, which is told above

  pub wait_may : (label : List ℕ) → d ≤ 7 → is_label label ≡ true → list_any (λ c. tells d label c && gives_request c.call) earlier ≡ true → MayFollow d earlier (waited d label)
  wait_may label small is told =
      line_may d earlier (waited d label) callee.Wait (label_of label, (try_limit, tt)) small refl (omega arith) refl refl refl refl tt refl (is, (omega arith, tt)) refl (λ board. ap (λ (b : Bool). not b || false) told)

  pub release_may : (label : List ℕ) → d ≤ 7 → is_label label ≡ true → list_any (λ c. tells d label c && gives_packet c.call) earlier ≡ true → MayFollow d earlier (tried d (Release (label_of label)))
  release_may label small is told =
      line_may d earlier (tried d (Release (label_of label))) callee.Release (label_of label, tt) small refl (omega arith) refl refl refl refl tries_most refl (is, tt) refl (λ board. ap (λ (b : Bool). not b || false) told)
