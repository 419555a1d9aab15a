-- The pages of the help.
use Rattle.std.specs.Prelude.{ℕ, List, ◌++◌, codes, flat_map}
use Rattle.command_words.specs.Words.{all_words, said_of}
use Rattle.command_words.specs.declared.page.Page.{Page}
use Rattle.command_words.specs.declared.page.Page.TheVariants.{All, Of, Version}
use Rattle.command_words.specs.declared.word.Word.{Word}

-- what the help says of a word: its usage, and a line
unfoldable pub pages_line : Word → List ℕ
pages_line word =
    codes "  " ++ (said_of word).usage ++ codes "\n      " ++ (said_of word).line ++ codes "\n"

-- what stands above the words in the help
unfoldable pub page_head : List ℕ
page_head =
    codes "linx_sim plays a script of nodes, links and actors by the rules of Enea LINX, and\nwrites everything that happened.\n\n"

-- what stands below the words in the help
unfoldable pub page_foot : List ℕ
page_foot =
    codes "\nFILE is a script, under order a printed text, under replay and check both, under\nchart a text or both; without it, or where it is -, standard input is read.\n`linx_sim help WORD` says more of a word.\n\nexit status:\n  0  done\n  1  the words ask for nothing\n  2  the bytes are no script\n  3  the script can't be read\n  4  the text can't be written\n  5  the journal is full before the run is over\n  6  memory was refused\n  7  what is sought isn't found, or the text is no run's, or no legal run's\n  8  the bytes are no printed text, or one that is too large\n  9  a stream ended within a frame or a request\n  11 the bytes of a stream are no frame or request, or break the rules\n\nThe manual is docs/use/linx_sim.1, or `man linx_sim` once it is installed.\n"

-- the page of all words: what the program is, the lines of each word, and what stands below
unfoldable pub help_page : List ℕ
help_page = page_head ++ flat_map pages_line all_words ++ page_foot

-- what stands above the example on the page of a word
unfoldable pub example_title : List ℕ
example_title = codes "\nexample:\n  "

-- the example on the page of a word
unfoldable pub example_lines : List ℕ → List ℕ
example_lines example = example_title ++ example ++ codes "\n"

-- the page of a word: its use, its paragraph and an example
unfoldable pub word_page : Word → List ℕ
word_page word =
    codes "linx_sim " ++ (said_of word).usage ++ codes "\n\n" ++ (said_of word).paragraph
    ++ example_lines (said_of word).example

-- THE PAGES of the help: of all words, of one, and the version
abbrev pub page_of : Page → List ℕ
page_of All = help_page
page_of (Of word) = word_page word
page_of Version = codes "linx_sim 1.0\n"
