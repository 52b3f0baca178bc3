-- How a scenario is written: its canonical text, and the ranges of its names and domains.
-- Source: docs/FORMATS.md, "Scenario files".
use Rattle.std.specs.Prelude.{ℕ, ◌*◌, ◌<◌, ◌≤◌, ◌^◌, List, [], ◌∷◌, ◌++◌, map, codes, decimal, Option, None, Some}
use Rattle.std.specs.List.{flat_map}
use Rattle.mc_base.specs.Limits.{last_domain, last_node, node_limit, pool_limit}
use Rattle.mc_base.specs.Text.{hex_text}
use Rattle.mc_base.specs.Letter.{bytes_of_bits}
use Rattle.mc_base.specs.declared.name.EndName.{EndName}
use Rattle.mc_base.specs.declared.channel.Kind.{Kind}
use Rattle.mc_base.specs.declared.channel.Kind.TheVariants as kind
use Rattle.board_model.specs.declared.scenario.DomainLine.{DomainLine}
use Rattle.board_model.specs.declared.scenario.LinkLine.{LinkLine}
use Rattle.board_model.specs.declared.scenario.Call.{Call}
use Rattle.board_model.specs.declared.scenario.Call.TheVariants.{Create, Delete, Lookup, MsgSend, MsgRecv, MsgRecvI, MsgAvailable, Connect, OpenSend, OpenRecv, PktSend, PktRecv, PktRecvI, Release, SclSend, SclRecv, CloseSend, CloseRecv, Test, Wait, WaitAny, Cancel, Raw, Turn}
use Rattle.board_model.specs.declared.scenario.CallLine.{CallLine}
use Rattle.board_model.specs.declared.scenario.Scenario.{Scenario}
use Rattle.board_model.specs.declared.form.ArgumentKind.{ArgumentKind}
use Rattle.board_model.specs.declared.form.ArgumentKind.TheVariants.{Port, Name, Priority, Content, Maximum, ChannelKind, ScalarBits, ScalarValue, RequestLabel, RequestLabels, PacketLabel, Limit, PeerDomain, RawFrame}
use Rattle.board_model.specs.declared.form.Callee.{Callee}
use Rattle.board_model.specs.declared.form.Callee.TheVariants as callee
use Rattle.board_model.specs.Scenario.{label_in}
use Rattle.board_model.specs.Forms.{Value, Values, form}

-- words with one space between them
abbrev pub spaced : List (List ℕ) → List ℕ
spaced [] = []
spaced (w ∷ []) = w
spaced (w ∷ v ∷ ws) = w ++ (32 ∷ spaced (v ∷ ws))

-- the words of a line, and its newline
abbrev pub line_of : List (List ℕ) → List ℕ
line_of words = spaced words ++ (10 ∷ [])

abbrev pub domain_text : DomainLine → List ℕ
domain_text d = line_of (codes "domain" ∷ decimal d.domain ∷ codes "nodes" ∷ decimal d.nodes ∷ codes "pool" ∷ decimal d.pool ∷ [])

abbrev pub link_text : LinkLine → List ℕ
link_text l = line_of (codes "link" ∷ decimal l.driver ∷ decimal l.device ∷ codes "size" ∷ decimal l.size ∷ [])

-- D:N:P
abbrev pub name_text : EndName → List ℕ
name_text n = decimal n.domain ++ (58 ∷ (decimal n.node ++ (58 ∷ decimal n.port)))

abbrev pub kind_text : Kind → List ℕ
kind_text kind.Packet = codes "packet"
kind_text kind.Scalar = codes "scalar"

-- words with one comma between them
abbrev pub with_commas : List (List ℕ) → List ℕ
with_commas [] = []
with_commas (w ∷ []) = w
with_commas (w ∷ v ∷ ws) = w ++ (44 ∷ with_commas (v ∷ ws))

-- an argument as its word
abbrev pub argument_text : (kind : ArgumentKind) → Value kind → List ℕ
argument_text Port n = decimal n
argument_text Name n = name_text n
argument_text Priority n = decimal n
argument_text Content bytes = hex_text bytes
argument_text Maximum n = decimal n
argument_text ChannelKind kind = kind_text kind
argument_text ScalarBits bits = decimal (8 * bytes_of_bits bits)
argument_text ScalarValue n = decimal n
argument_text RequestLabel label = label.items
argument_text RequestLabels labels = with_commas (map (λ l. l.items) labels.items)
argument_text PacketLabel label = label.items
argument_text Limit n = decimal n
argument_text PeerDomain n = decimal n
argument_text RawFrame bytes = hex_text bytes

abbrev pub argument_texts : (kinds : List ArgumentKind) → Values kinds → List (List ℕ)
argument_texts [] arguments = []
argument_texts (k ∷ ks) arguments = argument_text k arguments.0 ∷ argument_texts ks arguments.1

-- the words of a form with these arguments
abbrev pub form_words : (c : Callee) → Values (form c).arguments → List (List ℕ)
form_words c arguments = (form c).word ∷ argument_texts (form c).arguments arguments

-- the words of a call: its form, and its arguments in their order
abbrev pub call_words : Call → List (List ℕ)
call_words (Create port) = form_words callee.Create (port, tt)
call_words (Delete port) = form_words callee.Delete (port, tt)
call_words (Lookup name) = form_words callee.Lookup (name, tt)
call_words (MsgSend port to priority bytes) = form_words callee.MsgSend (port, (to, (priority, (bytes, tt))))
call_words (MsgRecv port max) = form_words callee.MsgRecv (port, (max, tt))
call_words (MsgRecvI port max) = form_words callee.MsgRecvI (port, (max, tt))
call_words (MsgAvailable port) = form_words callee.MsgAvailable (port, tt)
call_words (Connect port to kind) = form_words callee.Connect (port, (to, (kind, tt)))
call_words (OpenSend port kind) = form_words callee.OpenSend (port, (kind, tt))
call_words (OpenRecv port kind) = form_words callee.OpenRecv (port, (kind, tt))
call_words (PktSend port bytes) = form_words callee.PktSend (port, (bytes, tt))
call_words (PktRecv port) = form_words callee.PktRecv (port, tt)
call_words (PktRecvI port) = form_words callee.PktRecvI (port, tt)
call_words (Release label) = form_words callee.Release (label, tt)
call_words (SclSend port bits value) = form_words callee.SclSend (port, (bits, (value, tt)))
call_words (SclRecv port bits) = form_words callee.SclRecv (port, (bits, tt))
call_words (CloseSend port) = form_words callee.CloseSend (port, tt)
call_words (CloseRecv port) = form_words callee.CloseRecv (port, tt)
call_words (Test label) = form_words callee.Test (label, tt)
call_words (Wait label limit) = form_words callee.Wait (label, (limit, tt))
call_words (WaitAny labels limit) = form_words callee.WaitAny (labels, (limit, tt))
call_words (Cancel label) = form_words callee.Cancel (label, tt)
call_words (Raw domain bytes) = form_words callee.Raw (domain, (bytes, tt))
call_words Turn = form_words callee.Turn tt

-- a label, and the sign that sets it apart
abbrev pub label_words : Option (List ℕ) → List (List ℕ)
label_words None = []
label_words (Some label) = label ∷ codes "=" ∷ []

-- how often a call is made at most
abbrev pub tries_words : Option ℕ → List (List ℕ)
tries_words None = []
tries_words (Some tries) = codes "try" ∷ decimal tries ∷ []

-- D.N
abbrev pub caller_text : CallLine → List ℕ
caller_text c = decimal c.domain ++ (46 ∷ decimal c.node)

abbrev pub call_text : CallLine → List ℕ
call_text c = line_of (caller_text c ∷ (label_words (label_in c) ++ (tries_words c.tries ++ call_words c.call)))

-- the canonical text of a scenario
abbrev pub canonical : Scenario → List ℕ
canonical s = flat_map domain_text s.domains ++ (flat_map link_text s.links ++ flat_map call_text s.calls)

-- the ranges of a name
abbrev pub IsLawfulName : EndName → Type 0
IsLawfulName n = (n.domain ≤ last_domain) × (n.node ≤ last_node) × (n.port < 2 ^ 16)

-- the ranges of a domain line
pub record IsLawfulDomain (d : DomainLine) : Type 0 where
  pub domain_fits : d.domain ≤ last_domain
  pub some_nodes : 1 ≤ d.nodes
  pub nodes_fit : d.nodes ≤ node_limit
  pub some_pool : 1 ≤ d.pool
  pub pool_fits : d.pool ≤ pool_limit
