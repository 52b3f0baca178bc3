-- A trace in JSON: an array of objects, each with members and arguments.
-- Source: RFC 8259, sections 4 to 7; the Trace Event Format of Chrome's trace viewer, "JSON Object Format" and "Event Descriptions".
use Rattle.std.specs.Prelude.{◌≡◌, ℕ, List, [], ◌∷◌, ◌++◌, Option, None, Some, codes, decimal, option_to_list}
use Rattle.std.specs.List.{flat_map}
use Rattle.mc_base.specs.Text.{hex_text}
use Rattle.outer_io.specs.declared.sink.Sink.{Ghosts}
use Rattle.outer_io.specs.declared.writer.Writer.{Writer}
use Rattle.picture_text.specs.Escapes.{json_of}
use Rattle.picture_text.specs.Pieces.{PutsPieces}
use Rattle.picture_text.specs.declared.json.Phase.{Phase}
use Rattle.picture_text.specs.declared.json.Phase.TheVariants as phase
use Rattle.picture_text.specs.declared.json.Name.{Name}
use Rattle.picture_text.specs.declared.json.Name.TheVariants as name
use Rattle.picture_text.specs.declared.json.Value.{Value}
use Rattle.picture_text.specs.declared.json.Value.TheVariants.{Number, Words, Bytes}
use Rattle.picture_text.specs.declared.json.Member.{Member}

abbrev pub phase_text : Phase → List ℕ
phase_text phase.Complete = codes "X"
phase_text phase.FlowStart = codes "s"
phase_text phase.FlowFinish = codes "f"
phase_text phase.Counter = codes "C"
phase_text phase.Instant = codes "i"
phase_text phase.Metadata = codes "M"

abbrev pub name_text : Name → List ℕ
name_text name.Name = codes "name"
name_text name.Category = codes "cat"
name_text name.Time = codes "ts"
name_text name.Duration = codes "dur"
name_text name.Process = codes "pid"
name_text name.Track = codes "tid"
name_text name.Id = codes "id"
name_text name.Binding = codes "bp"
name_text name.Scope = codes "s"
name_text name.Answer = codes "answer"
name_text name.Frame = codes "frame"
name_text name.Fate = codes "fate"
name_text name.Free = codes "free"
name_text name.OnWay = codes "on the way"
name_text name.Held = codes "held"
name_text name.Returned = codes "given back"
name_text name.Times = codes "times"

-- ---- a member

unfoldable pub words_text : List ℕ → List ℕ
words_text words = codes "\"" ++ (flat_map json_of words ++ codes "\"")

unfoldable pub bytes_text : List ℕ → List ℕ
bytes_text bytes = codes "\"" ++ (hex_text bytes ++ codes "\"")

abbrev pub value_text : Value → List ℕ
value_text (Number n) = decimal n
value_text (Words words) = words_text words.now
value_text (Bytes bytes) = bytes_text bytes.now

unfoldable pub member_text : Member → List ℕ
member_text m = codes "\"" ++ (name_text m.name ++ (codes "\":" ++ value_text m.value))

unfoldable pub more_member : Member → List ℕ
more_member m = codes "," ++ member_text m

unfoldable pub members_text : List Member → List ℕ
members_text [] = []
members_text (m ∷ ms) = member_text m ++ flat_map more_member ms

-- the first argument is the line of a report that the object shows, where it shows one
unfoldable pub args_text : Option ℕ → List Member → List ℕ
args_text (Some n) ms = codes "\"line\":" ++ (decimal n ++ flat_map more_member ms)
args_text None ms = members_text ms

-- ---- an object

pub record Object : Type 0 where
  pub phase : Phase
  pub line : Option ℕ
  pub members : List Member
  pub args : List Member

abbrev pub object : Phase → Option ℕ → List Member → List Member → Object
object phase line members args = record { phase = phase; line = line; members = members; args = args }

unfoldable pub object_text : Object → List ℕ
object_text o = codes ",\n{\"ph\":\"" ++ (phase_text o.phase ++ (codes "\"" ++ (flat_map more_member o.members ++ (codes ",\"args\":{" ++ (args_text o.line o.args ++ codes "}}")))))

abbrev pub line_of_object : Object → List ℕ
line_of_object o = option_to_list o.line

-- some objects were put, and these are the lines that they show
abbrev pub PutsObjects : {K : Type 0} (sink : Ghosts K) (old new : Writer K) (lines : List ℕ) → Type 0
PutsObjects sink old new lines = PutsPieces object_text line_of_object sink old new lines

-- ---- a trace

abbrev pub trace_head : List ℕ
trace_head = codes "{\"displayTimeUnit\":\"ns\",\"traceEvents\":[\n{\"ph\":\"M\",\"name\":\"process_name\",\"pid\":1,\"args\":{\"name\":\"board\"}}"

abbrev pub trace_end : List ℕ
trace_end = codes "\n]}\n"

-- a trace that shows these lines: one object that has an array of others
pub record IsTrace (lines text : List ℕ) : Type 0 where
  pub objects : List Object
  pub shows : flat_map line_of_object objects ≡ lines
  pub is : text ≡ trace_head ++ (flat_map object_text objects ++ trace_end)
