-- The words of the command line, and what is said of each.
use Rattle.std.specs.Prelude.{ℕ, Bool, ◌||◌, List, [], ◌∷◌, codes, Option, Some, None}
use Rattle.std.specs.Prelude.{if◌then◌else◌}
use Rattle.std.specs.Str.{bytes_eq}
use Rattle.command_words.specs.declared.word.Word.{Word}
use Rattle.command_words.specs.declared.word.Word.TheVariants.{Run, Serial, Seed, Find, Seeds, Order}
use Rattle.command_words.specs.declared.word.Word.TheVariants.{Replay, Check, Chart, Gen, Stream, Gateway}
use Rattle.command_words.specs.declared.word.Word.TheVariants.{Help, Version}

-- a row of the table: the name of a word, its use, a line, a paragraph and an example
pub record Row : Type 0 where
  pub name : List ℕ
  pub usage : List ℕ
  pub line : List ℕ
  pub paragraph : List ℕ
  pub example : List ℕ

-- THE TABLE OF THE WORDS
unfoldable pub said_of : Word → Row
said_of Run = record {
  name = codes "run";
  usage = codes "run [FILE]";
  line = codes "play a script with a thread for each actor and each link";
  paragraph =
      codes "Reads a script from FILE, or from standard input, plays it with a thread for each\nactor and each link, and writes the log of each endpoint and the journal of all\nsteps. The threads take turns in any order, so the text may differ each time.\n";
  example = codes "linx_sim run examples/losses.linx";
}
said_of Serial = record {
  name = codes "serial";
  usage = codes "serial [FILE]";
  line = codes "play a script in the fixed order of rounds";
  paragraph =
      codes "Reads a script from FILE, or from standard input, plays it in the fixed order of\nrounds, and writes the same kind of text as run. It is the same each time.\n";
  example = codes "linx_sim serial < examples/losses.linx";
}
said_of Seed = record {
  name = codes "seed";
  usage = codes "seed S [FILE]";
  line = codes "play a script in the order that a number decides";
  paragraph =
      codes "Plays a script as serial does, but in an order that the number S decides, which has\none to ten decimal digits and is at most 4294967295. The text is the same each time\nfor one S; other numbers have other orders.\n";
  example = codes "linx_sim seed 7 examples/losses.linx";
}
said_of Find = record {
  name = codes "find";
  usage = codes "find A B [progress] [in FILE] [not] WORD ..";
  line = codes "find the first number from A to B whose run has a line of these words";
  paragraph =
      codes "Plays a script as seed does, in the orders of the numbers A, A + 1, .. B, a million at\nmost, and writes the first one whose text has a line that begins with these words, and\nthe line. There are one to eight words; _ stands for any. What a line begins with is\nwhat stands behind the number and the maker of a step, or the + of an effect. With not\nit writes the first one whose text has no such line. Where there is none it exits 7.\nWith progress a line on standard error says each second how many runs were made.\n";
  example = codes "linx_sim find 1 1000 in examples/losses.linx notified _ _ _ dead";
}
said_of Seeds = record {
  name = codes "seeds";
  usage = codes "seeds A B [progress] [FILE]";
  line = codes "report what comes of a script in the orders of the numbers A to B";
  paragraph =
      codes "Plays a script as seed does, in the orders of the numbers A, A + 1, .. B, a million at\nmost, and writes which outcomes came, how often and for which number first; and in how\nmany runs a refusal, a none, a dead, closed or lost, or a down came. With progress a line\non standard error says each second how many runs were made.\n";
  example = codes "linx_sim seeds 1 1000 examples/losses.linx";
}
said_of Order = record {
  name = codes "order";
  usage = codes "order [FILE]";
  line = codes "write the order of a printed run, as lines of a script";
  paragraph =
      codes "Reads the text of a run from FILE, or from standard input, and writes whose turns its\nsteps were, as lines of a script. With these lines its script makes the same run again\nunder serial, byte for byte, also where run made it.\n";
  example = codes "linx_sim run examples/losses.linx | linx_sim order";
}
said_of Replay = record {
  name = codes "replay";
  usage = codes "replay [FILE]";
  line = codes "play a printed run again, and tell whether it is the same";
  paragraph =
      codes "Reads a script, behind it a line `text`, and behind that the text of a run, all from FILE,\nor from standard input. It plays the script again with the turns that the text tells, and\nwrites same and how many steps there are where the text is that of a run of this script,\nbyte for byte. Else it exits 7 and names the first line that is another.\n";
  example =
      codes "(cat examples/link.linx; echo text; linx_sim run examples/link.linx) | linx_sim replay";
}
said_of Check = record {
  name = codes "check";
  usage = codes "check [FILE]";
  line = codes "tell whether a printed run is legal";
  paragraph =
      codes "Reads a script, behind it a line `text`, and behind that the text of a run, all from FILE,\nor from standard input, and looks at each step by the laws of LINX, whoever made the\ntext. It writes legal and how many steps there are where the text is that of a legal\nrun of the script. Else it exits 7 and names the first step that isn't legal, and the\nlaw that it breaks.\n";
  example =
      codes "(cat examples/question.linx; echo text; linx_sim run examples/question.linx) | linx_sim check";
}
said_of Chart = record {
  name = codes "chart";
  usage = codes "chart [map | OPTION ..] [FILE]";
  line = codes "draw a printed run as a picture, a page with one, or a map";
  paragraph =
      codes "Reads the text of a run from FILE, or from standard input, and writes a picture of it\nas SVG: a lane for each endpoint and link, a row for each step and what it did, and an\narrow from each send to its arrival. It draws 6,000 rows at most. With map it writes a\nmap of a long run: at most 240 rows, each of many steps. Else there may be options, in\nany order: with page it writes a page for a browser, where a click lights what belongs\ntogether; with plain the picture without the lines of the journal; with fold a run of\nsteps of links that did nothing is one row; with steps A B it has only the rows of these\nsteps; with of A1,P2 only those of actor 1 and link 2, and of what came to them or was\nsent to them. The text may stand behind its script and a line `text`, as check takes it:\nthen nodes, links and actors have the names and places that the script gives them. A\nFILE whose name is that of an option is written with a path, as ./page.\n";
  example = codes "linx_sim serial examples/losses.linx | linx_sim chart > losses.svg";
}
said_of Gen = record {
  name = codes "gen";
  usage = codes "gen N";
  line = codes "play the generated script of a number, and write its summary";
  paragraph =
      codes "Plays the generated script of the number N, which has one to ten decimal digits and\nis at most 4294967295, as run does, and writes ten lines of a word and a number\neach. Nothing is read.\n";
  example = codes "linx_sim gen 7";
}
said_of Stream = record {
  name = codes "stream";
  usage = codes "stream";
  line = codes "serve one peer over a byte stream by an echo";
  paragraph =
      codes "Reads the frames of one peer from standard input, in whatever pieces they come, and\nwrites what an endpoint with the name echo says to them to standard output. It\nsends each signal back to its sender. No socket is opened.\n";
  example = codes "socat -t 60 TCP-LISTEN:9000,bind=127.0.0.1,fork EXEC:'linx_sim stream'";
}
said_of Gateway = record {
  name = codes "gateway";
  usage = codes "gateway N [--journal FILE]";
  line = codes "serve clients over a byte stream, each with the calls of LINX";
  paragraph =
      codes "Reads the requests of the clients 1 to N, which is at most 16, from standard input,\nin whatever pieces they come, and writes the replies to standard output. Each\nclient has an endpoint and timers. No socket is opened. With --journal it makes\nFILE first, empties it if it is there, and writes the text of the session's\njournal into it at the end, as run writes one.\n";
  example = codes "socat TCP-LISTEN:9000,bind=127.0.0.1,fork EXEC:'linx_sim gateway 4'";
}
said_of Help = record {
  name = codes "help";
  usage = codes "help [WORD]";
  line = codes "write this help, or that of a word";
  paragraph =
      codes "Writes what all words are for, or what one is for, to standard output. The same are\n--help, -h and WORD --help.\n";
  example = codes "linx_sim help serial";
}
said_of Version = record {
  name = codes "version";
  usage = codes "version";
  line = codes "write the version";
  paragraph =
      codes "Writes the name of the program and its version to standard output. The same are\n--version and -V.\n";
  example = codes "linx_sim version";
}

-- all words, in the order of the help
abbrev pub all_words : List Word
all_words = Run ∷ Serial ∷ Seed ∷ Find ∷ Seeds ∷ Order ∷ Replay ∷ Check ∷ Chart ∷ Gen ∷ Stream ∷ Gateway ∷ Help ∷ Version ∷ []

-- the first of these words whose name is the text
abbrev pub named : List ℕ → List Word → Option Word
named text [] = None
named text (word ∷ words) = if bytes_eq text (said_of word).name then Some word else named text words

-- the text asks for help
abbrev pub is_help_flag : List ℕ → Bool
is_help_flag text = bytes_eq text (codes "--help") || bytes_eq text (codes "-h")

-- the text asks for the version
abbrev pub is_version_flag : List ℕ → Bool
is_version_flag text = bytes_eq text (codes "--version") || bytes_eq text (codes "-V")

-- the word that a text is: by a flag, or by its name
unfoldable pub called : List ℕ → Option Word
called text =
    if is_help_flag text then Some Help
    else if is_version_flag text then Some Version
    else named text all_words
