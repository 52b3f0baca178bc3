-- A picture in SVG: its elements, each of which is opened, has attributes and a text, and is closed.
-- Source: XML 1.0, sections 2.1, 3.1 and 2.4; SVG 2, sections 5.1, 10.2 to 10.5 and 11.2.
use Rattle.std.specs.Prelude.{◌≡◌, ℕ, List, [], ◌∷◌, ◌++◌, Option, None, Some, codes, decimal, option_to_list}
use Rattle.std.specs.List.{flat_map}
use Rattle.outer_io.specs.declared.sink.Sink.{Ghosts}
use Rattle.outer_io.specs.declared.writer.Writer.{Writer}
use Rattle.picture_text.specs.Escapes.{xml_of}
use Rattle.picture_text.specs.Pieces.{PutsPieces}
use Rattle.picture_text.specs.declared.svg.Tag.{Tag}
use Rattle.picture_text.specs.declared.svg.Tag.TheVariants as tag
use Rattle.picture_text.specs.declared.svg.Look.{Look}
use Rattle.picture_text.specs.declared.svg.Look.TheVariants as look
use Rattle.picture_text.specs.declared.svg.Key.{Key}
use Rattle.picture_text.specs.declared.svg.Key.TheVariants as key
use Rattle.picture_text.specs.declared.svg.Number.{Number}
use Rattle.picture_text.specs.declared.svg.Shape.{Shape}

abbrev pub tag_name : Tag → List ℕ
tag_name tag.Style = codes "style"
tag_name tag.Rect = codes "rect"
tag_name tag.Line = codes "line"
tag_name tag.Circle = codes "circle"
tag_name tag.Text = codes "text"

-- the class by which the picture's style sheet knows an element
abbrev pub look_name : Look → List ℕ
look_name look.Plain = codes "plain"
look_name look.Page = codes "page"
look_name look.Title = codes "title"
look_name look.Note = codes "note"
look_name look.Small = codes "small"
look_name look.Right = codes "right"
look_name look.RightNote = codes "right note"
look_name look.RightAlarm = codes "right alarm"
look_name look.Box = codes "box"
look_name look.Life = codes "life"
look_name look.Frame = codes "frame"
look_name look.Data = codes "data"
look_name look.DataLost = codes "data lost"
look_name look.DataWords = codes "data words"
look_name look.Control = codes "control"
look_name look.ControlLost = codes "control lost"
look_name look.ControlWords = codes "control words"
look_name look.Name = codes "name"
look_name look.NameLost = codes "name lost"
look_name look.NameWords = codes "name words"
look_name look.Fault = codes "fault"
look_name look.FaultLost = codes "fault lost"
look_name look.Alarm = codes "alarm"
look_name look.Done = codes "done"
look_name look.Refused = codes "refused"
look_name look.Again = codes "again"
look_name look.Wait = codes "wait"
look_name look.WaitEnded = codes "wait ended"
look_name look.WaitWords = codes "wait words"
look_name look.Free = codes "free"
look_name look.OnWay = codes "onway"
look_name look.Held = codes "held"
look_name look.Returned = codes "returned"

abbrev pub key_name : Key → List ℕ
key_name key.X = codes "x"
key_name key.Y = codes "y"
key_name key.Width = codes "width"
key_name key.Height = codes "height"
key_name key.FromX = codes "x1"
key_name key.FromY = codes "y1"
key_name key.ToX = codes "x2"
key_name key.ToY = codes "y2"
key_name key.Cx = codes "cx"
key_name key.Cy = codes "cy"
key_name key.Radius = codes "r"

-- ---- an element

pub record Element : Type 0 where
  pub shape : Shape
  pub numbers : List Number
  pub content : List ℕ

abbrev pub element : Shape → List Number → List ℕ → Element
element shape numbers content = record { shape = shape; numbers = numbers; content = content }

unfoldable pub attribute : Number → List ℕ
attribute n = codes " " ++ (key_name n.key ++ (codes "=\"" ++ (decimal n.value ++ codes "\"")))

-- the line of a report that an element shows
unfoldable pub line_mark : Option ℕ → List ℕ
line_mark None = []
line_mark (Some n) = codes " data-line=\"" ++ (decimal n ++ codes "\"")

unfoldable pub markup : Element → List ℕ
markup e = codes "<" ++ (tag_name e.shape.tag ++ (codes " class=\"" ++ (look_name e.shape.look ++ (codes "\"" ++ (line_mark e.shape.line
    ++ (flat_map attribute e.numbers ++ (codes ">" ++ (flat_map xml_of e.content ++ (codes "</" ++ (tag_name e.shape.tag ++ codes ">\n"))))))))))

abbrev pub line_shown : Element → List ℕ
line_shown e = option_to_list e.shape.line

-- some elements were put, and these are the lines that they show
abbrev pub PutsElements : {K : Type 0} (sink : Ghosts K) (old new : Writer K) (lines : List ℕ) → Type 0
PutsElements sink old new lines = PutsPieces markup line_shown sink old new lines

-- ---- a picture

unfoldable pub head : ℕ → ℕ → List ℕ
head width height = codes "<svg xmlns=\"http://www.w3.org/2000/svg\" width=\"" ++ (decimal width ++ (codes "\" height=\"" ++ (decimal height
    ++ (codes "\" viewBox=\"0 0 " ++ (decimal width ++ (codes " " ++ (decimal height ++ codes "\">\n")))))))

abbrev pub page_end : List ℕ
page_end = codes "</svg>\n"

-- a picture that shows these lines: one element that holds others
pub record IsPicture (lines text : List ℕ) : Type 0 where
  pub width : ℕ
  pub height : ℕ
  pub elements : List Element
  pub shows : flat_map line_shown elements ≡ lines
  pub is : text ≡ head width height ++ (flat_map markup elements ++ page_end)
