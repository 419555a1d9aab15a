-- The classes: their names, and how each looks.
use Rattle.std.specs.Prelude.{ℕ, List, [], ◌∷◌, codes}
use Rattle.svg_text.specs.declared.class.Class.{Class}
use Rattle.svg_text.specs.declared.class.Class.TheVariants.{Node, NodeCaption, Lane, Stripe, Cut}
use Rattle.svg_text.specs.declared.class.Class.TheVariants.{Restart, Fold, Life, Bar, Wait, Rail}
use Rattle.svg_text.specs.declared.class.Class.TheVariants.{Session, Packet, PacketHead, Told}
use Rattle.svg_text.specs.declared.class.Class.TheVariants.{ToldHead, Signal, SignalHead, Found}
use Rattle.svg_text.specs.declared.class.Class.TheVariants.{FoundHead, Notice, NoticeHead, Queue}
use Rattle.svg_text.specs.declared.class.Class.TheVariants.{QueueFound, QueueNotice, Mark, Dot}
use Rattle.svg_text.specs.declared.class.Class.TheVariants.{Wrong, Label, Faint, Strong}
use Rattle.svg_text.specs.declared.class.Class.TheVariants.{WrongLabel, Line, Effect, Hit}

-- all classes, in the order in which the style sheet has them
unfoldable pub all_classes : List Class
all_classes =
    Node ∷ NodeCaption ∷ Lane ∷ Stripe ∷ Cut ∷ Restart ∷ Fold ∷ Life ∷ Bar ∷ Wait ∷ Rail ∷
    Session ∷ Packet ∷ PacketHead ∷ Told ∷ ToldHead ∷ Signal ∷ SignalHead ∷ Found ∷
    FoundHead ∷ Notice ∷ NoticeHead ∷ Queue ∷ QueueFound ∷ QueueNotice ∷ Mark ∷ Dot ∷ Wrong ∷
    Label ∷ Faint ∷ Strong ∷ WrongLabel ∷ Line ∷ Effect ∷ Hit ∷ []

-- the name of a class
abbrev pub class_name : Class → List ℕ
class_name Node = codes "node"
class_name NodeCaption = codes "node-caption"
class_name Lane = codes "lane"
class_name Stripe = codes "stripe"
class_name Cut = codes "cut"
class_name Restart = codes "restart"
class_name Fold = codes "fold"
class_name Life = codes "life"
class_name Bar = codes "bar"
class_name Wait = codes "wait"
class_name Rail = codes "rail"
class_name Session = codes "session"
class_name Packet = codes "packet"
class_name PacketHead = codes "packet-head"
class_name Told = codes "told"
class_name ToldHead = codes "told-head"
class_name Signal = codes "signal"
class_name SignalHead = codes "signal-head"
class_name Found = codes "found"
class_name FoundHead = codes "found-head"
class_name Notice = codes "notice"
class_name NoticeHead = codes "notice-head"
class_name Queue = codes "queue"
class_name QueueFound = codes "queue-found"
class_name QueueNotice = codes "queue-notice"
class_name Mark = codes "mark"
class_name Dot = codes "dot"
class_name Wrong = codes "wrong"
class_name Label = codes "label"
class_name Faint = codes "faint"
class_name Strong = codes "strong"
class_name WrongLabel = codes "wrong-label"
class_name Line = codes "line"
class_name Effect = codes "effect"
class_name Hit = codes "hit"

-- how a class looks on a light ground: declarations of CSS
abbrev pub light_look : Class → List ℕ
light_look Node = codes "fill:#f4f8fb;stroke:#d5e2ef"
light_look NodeCaption = codes "fill:#d5e2ef"
light_look Lane = codes "fill:#fcfcfc;stroke:#e6e6e6"
light_look Stripe = codes "fill:#000;fill-opacity:.025"
light_look Cut = codes "fill:#d55e00;fill-opacity:.1;stroke:#d55e00;stroke-dasharray:3 2"
light_look Restart = codes "stroke:#c04a00;stroke-width:3;stroke-opacity:.5"
light_look Fold = codes "fill:#8d96a0;fill-opacity:.18"
light_look Life = codes "stroke:#9aa4ae;stroke-dasharray:2 3;fill:none"
light_look Bar = codes "fill:#fff;stroke:#445"
light_look Wait = codes "fill:#cfd6dd"
light_look Rail = codes "stroke:#c3c9d0;fill:none"
light_look Session = codes "fill:#5b6b7b"
light_look Packet = codes "stroke:#8d96a0;fill:none"
light_look PacketHead = codes "fill:#8d96a0"
light_look Told = codes "stroke:#445;stroke-width:1.4;fill:none"
light_look ToldHead = codes "fill:#445"
light_look Signal = codes "stroke:#0072b2;stroke-width:1.6;fill:none"
light_look SignalHead = codes "fill:#0072b2"
light_look Found = codes "stroke:#00805c;stroke-width:1.6;stroke-dasharray:6 3;fill:none"
light_look FoundHead = codes "fill:#00805c"
light_look Notice = codes "stroke:#9c3f80;stroke-width:1.6;stroke-dasharray:2 2;fill:none"
light_look NoticeHead = codes "fill:#9c3f80"
light_look Queue = codes "stroke:#0072b2;stroke-width:2.4;fill:none"
light_look QueueFound = codes "stroke:#00805c;stroke-width:2.4;fill:none"
light_look QueueNotice = codes "stroke:#9c3f80;stroke-width:2.4;fill:none"
light_look Mark = codes "fill:#fff;stroke:#222;stroke-width:1.3"
light_look Dot = codes "fill:#222"
light_look Wrong = codes "stroke:#c04a00;stroke-width:2;fill:none"
light_look Label = codes "fill:#222"
light_look Faint = codes "fill:#667"
light_look Strong = codes "fill:#222;font-weight:700"
light_look WrongLabel = codes "fill:#b04400;font-weight:700"
light_look Line = codes "fill:#667"
light_look Effect = codes "fill:#737385"
light_look Hit = codes "fill:#fff;fill-opacity:0"

-- how a class looks otherwise on a dark ground: declarations of CSS
abbrev pub dark_look : Class → List ℕ
dark_look Node = codes "fill:#191f26;stroke:#2a3947"
dark_look NodeCaption = codes "fill:#2a3947"
dark_look Lane = codes "fill:#161a1f;stroke:#262d35"
dark_look Stripe = codes "fill:#fff"
dark_look Cut = codes "fill:#ff8f45;stroke:#ff8f45"
dark_look Restart = codes "stroke:#ff8f45"
dark_look Fold = codes "fill:#8d96a0"
dark_look Life = codes "stroke:#5c6772"
dark_look Bar = codes "fill:#14171b;stroke:#aab4be"
dark_look Wait = codes "fill:#39434d"
dark_look Rail = codes "stroke:#3a434d"
dark_look Session = codes "fill:#93a3b3"
dark_look Packet = codes "stroke:#77818c"
dark_look PacketHead = codes "fill:#77818c"
dark_look Told = codes "stroke:#b9c2cc"
dark_look ToldHead = codes "fill:#b9c2cc"
dark_look Signal = codes "stroke:#56b4e9"
dark_look SignalHead = codes "fill:#56b4e9"
dark_look Found = codes "stroke:#33c499"
dark_look FoundHead = codes "fill:#33c499"
dark_look Notice = codes "stroke:#e79bc8"
dark_look NoticeHead = codes "fill:#e79bc8"
dark_look Queue = codes "stroke:#56b4e9"
dark_look QueueFound = codes "stroke:#33c499"
dark_look QueueNotice = codes "stroke:#e79bc8"
dark_look Mark = codes "fill:#14171b;stroke:#e4e6e8"
dark_look Dot = codes "fill:#e4e6e8"
dark_look Wrong = codes "stroke:#ff8f45"
dark_look Label = codes "fill:#e4e6e8;stroke:#181d23"
dark_look Faint = codes "fill:#98a2ae;stroke:#181d23"
dark_look Strong = codes "fill:#e4e6e8;stroke:#181d23"
dark_look WrongLabel = codes "fill:#ff9d5c;stroke:#181d23"
dark_look Line = codes "fill:#98a2ae"
dark_look Effect = codes "fill:#7f8995"
dark_look Hit = codes "fill:#fff"
