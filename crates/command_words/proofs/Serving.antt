-- How many clients a gateway has that words ask for.
use Rattle.std.proofs.Common.{◌≡◌, ℕ, ◌<◌, ◌≤◌, Bool, true, false, List, [], ◌∷◌, refl, arith}
use Rattle.std.proofs.Common.{subst, Option, Some, None, option_map, option_and_then, ◌&&◌, nat_le}
use Rattle.std.proofs.Common.{nat_lt, if◌then◌else◌, length, not, ◌||◌, codes}
use Rattle.std.specs.Str.{bytes_eq}
use Rattle.std.proofs.lemmas.Bool.{and_parts}
use Rattle.std.proofs.lemmas.Bool.Decides.{nat_tests}
use Rattle.script_words.specs.Numbers.{number_spelled}
use Rattle.command_words.specs.Requests.{asked_alone, asked_with, asked_with_file, asked_with_plain}
use Rattle.command_words.specs.Charts.{chart_by}
use Rattle.command_words.specs.Files.{is_file_name, is_no_name}
use Rattle.command_words.specs.Ranges.{ranged}
use Rattle.command_words.specs.Requests.{asked_with_more, clients_in, clients_spelled, is_progress}
use Rattle.command_words.specs.Requests.{report_behind, report_over, reported, reported_of}
use Rattle.command_words.specs.Requests.{request_by, searched, seeded}
use Rattle.command_words.specs.Words.{called, is_help_flag}
use Rattle.command_words.specs.declared.request.Asked.{Asked}
use Rattle.command_words.specs.declared.request.Request.TheVariants.{Show, Play, Work, Serve}
use Rattle.command_words.specs.declared.drawn.Drawn.{Drawn}
use Rattle.command_words.specs.declared.range.Range.{Range}
use Rattle.command_words.specs.declared.search.Search.{Search}
use Rattle.command_words.specs.declared.word.Word.{Word}
use Rattle.command_words.specs.declared.request.TurnOrder.TheVariants.{Fixed}
use Rattle.command_words.specs.declared.page.Page.TheVariants as pages
use Rattle.command_words.specs.declared.request.Asked.TheVariants as asks
use Rattle.command_words.specs.declared.work.Work.{Work as Works}
use Rattle.command_words.specs.declared.work.Work.TheVariants as works
use Rattle.command_words.specs.declared.word.Word.TheVariants.{Run, Serial, Seed, Find, Seeds, Order}
use Rattle.command_words.specs.declared.word.Word.TheVariants.{Replay, Check, Chart, Gen, Stream, Gateway}
use Rattle.command_words.specs.declared.word.Word.TheVariants.{Help, Version}

-- 1 to 16
pub record AreFew (n : ℕ) : Type 0 where
  pub some : 0 < n
  pub few : n ≤ 16

in_range : (fits : Bool) (k n : ℕ) → (nat_le 1 k && nat_le k 16) ≡ fits
    → (if fits then Some k else None) ≡ Some n → AreFew n
in_range true k n is same =
    let one : k ≡ n = cc in
    let parts = and_parts (nat_le 1 k) (nat_le k 16) is in
    let low : nat_le 1 k ≡ true = parts.0 in
    let high : nat_le k 16 ≡ true = parts.1 in
    subst AreFew one (record { some = grind (arith, nat_tests); few = grind (arith, nat_tests) })
in_range false k n is same = absurd cc

few_in : (o : Option ℕ) (n : ℕ) → clients_in o ≡ Some n → AreFew n
few_in None n is = absurd cc
few_in (Some k) n is = in_range (nat_le 1 k && nat_le k 16) k n refl is

few_spelled : (long : Bool) (o : Option ℕ) (n : ℕ)
    → (if long then None else clients_in o) ≡ Some n → AreFew n
few_spelled true o n is = absurd cc
few_spelled false o n is = few_in o n is

mapped : (o : Option ℕ) (n : ℕ) → option_map (λ k. Serve k) o ≡ Some (Serve n) → o ≡ Some n
mapped None n is = absurd cc
mapped (Some k) n is = cc

no_run : (asked : Asked) (named : Bool) (n : ℕ)
    → (if named then Some (Play asked) else None) ≡ Some (Serve n) → ⊥
no_run asked true n is = cc
no_run asked false n is = cc

no_work : (work : Works) (named : Bool) (n : ℕ)
    → (if named then Some (Work work) else None) ≡ Some (Serve n) → ⊥
no_work work true n is = cc
no_work work false n is = cc

no_chart : (o : Option Drawn) (n : ℕ)
    → option_map (λ drawn. Work (works.Chart drawn)) o ≡ Some (Serve n) → ⊥
no_chart None n is = cc
no_chart (Some drawn) n is = cc

no_order : (o : Option Asked) (n : ℕ) → option_map (λ asked. Play asked) o ≡ Some (Serve n) → ⊥
no_order None n is = cc
no_order (Some asked) n is = cc

no_file : (o : Option Asked) (named : Bool) (n : ℕ)
    → option_and_then (λ asked. if named then Some (Play asked) else None) o ≡ Some (Serve n) → ⊥
no_file None named n is = cc
no_file (Some asked) named n is = no_run asked named n is

no_gen : (o : Option ℕ) (n : ℕ) → option_map (λ k. Play (asks.Gen k)) o ≡ Some (Serve n) → ⊥
no_gen None n is = cc
no_gen (Some k) n is = cc

no_page : (o : Option Word) (n : ℕ) → option_map (λ w. Show (pages.Of w)) o ≡ Some (Serve n) → ⊥
no_page None n is = cc
no_page (Some w) n is = cc

few_plain : (word : Word) (argument : List ℕ) (n : ℕ)
    → asked_with_plain word argument ≡ Some (Serve n) → AreFew n
few_plain Run argument n is = absurd (no_run asks.Run (is_file_name argument) n is)
few_plain Serial argument n is =
    absurd (no_run (asks.InOrder Fixed) (is_file_name argument) n is)
few_plain Seed argument n is = absurd (no_order (seeded argument) n is)
few_plain Find argument n is = absurd cc
few_plain Seeds argument n is = absurd cc
few_plain Order argument n is = absurd (no_work works.Order (is_file_name argument) n is)
few_plain Replay argument n is = absurd (no_work works.Replay (is_file_name argument) n is)
few_plain Check argument n is = absurd (no_work works.Check (is_file_name argument) n is)
few_plain Chart argument n is = absurd (no_chart (chart_by (argument ∷ [])) n is)
few_plain Gen argument n is = absurd (no_gen (number_spelled argument) n is)
few_plain Stream argument n is = absurd cc
few_plain Gateway argument n is =
    few_spelled (nat_lt 2 (length argument)) (number_spelled argument) n
    (mapped (clients_spelled argument) n is)
few_plain Help argument n is = absurd (no_page (called argument) n is)
few_plain Version argument n is = absurd cc

few_with : (flag : Bool) (word : Word) (argument : List ℕ) (n : ℕ)
    → (if flag then Some (Show (pages.Of word)) else asked_with_plain word argument)
    ≡ Some (Serve n) → AreFew n
few_with true word argument n is = absurd cc
few_with false word argument n is = few_plain word argument n is

few_called : (word : Option Word) (argument : List ℕ) (n : ℕ)
    → option_and_then (λ w. asked_with w argument) word ≡ Some (Serve n) → AreFew n
few_called None argument n is = absurd cc
few_called (Some w) argument n is = few_with (is_help_flag argument) w argument n is

none_alone : (word : Option Word) (n : ℕ)
    → option_and_then (λ w. asked_alone w) word ≡ Some (Serve n) → ⊥
none_alone None n is = cc
none_alone (Some Run) n is = cc
none_alone _ n is = cc

no_range : (progress : Bool) (o : Option Range) (n : ℕ)
    → option_map (λ range. report_over progress range) o ≡ Some (Serve n) → ⊥
no_range progress None n is = cc
no_range progress (Some range) n is = cc

no_ranged_file : (progress : Bool) (o : Option Range) (named : Bool) (n : ℕ)
    → option_and_then (λ request. if named then Some request else None)
    (option_map (λ range. report_over progress range) o) ≡ Some (Serve n) → ⊥
no_ranged_file progress None named n is = cc
no_ranged_file progress (Some range) true n is = cc
no_ranged_file progress (Some range) false n is = cc

no_report_of_one : (told : Bool) (from to file : List ℕ) (n : ℕ)
    → (if told then reported true from to else reported_of false from to file) ≡ Some (Serve n)
    → ⊥
no_report_of_one true from to file n is = no_range true (ranged from to) n is
no_report_of_one false from to file n is =
    no_ranged_file false (ranged from to) (is_file_name file) n is

no_report_of_two : (told : Bool) (from to file : List ℕ) (n : ℕ)
    → (if told then reported_of true from to file else None) ≡ Some (Serve n) → ⊥
no_report_of_two true from to file n is =
    no_ranged_file true (ranged from to) (is_file_name file) n is
no_report_of_two false from to file n is = cc

no_report : (from to : List ℕ) (behind : List (List ℕ)) (n : ℕ)
    → report_behind from to behind ≡ Some (Serve n) → ⊥
no_report from to [] n is = no_range false (ranged from to) n is
no_report from to (word ∷ []) n is = no_report_of_one (is_progress word) from to word n is
no_report from to (word ∷ file ∷ []) n is = no_report_of_two (is_progress word) from to file n is
no_report from to (word ∷ file ∷ more ∷ rest) n is = cc

none_with_file : (word : Option Word) (argument file : List ℕ) (n : ℕ)
    → option_and_then (λ w. asked_with_file w argument file) word ≡ Some (Serve n) → ⊥
none_with_file (Some Seed) argument file n is = no_file (seeded argument) (is_file_name file) n is
none_with_file (Some Seeds) argument file n is = no_range false (ranged argument file) n is
none_with_file (Some Chart) argument file n is = no_chart (chart_by (argument ∷ file ∷ [])) n is
none_with_file _ argument file n is = cc

no_search : (o : Option Search) (n : ℕ)
    → option_map (λ s. Work (works.Find s)) o ≡ Some (Serve n) → ⊥
no_search None n is = cc
no_search (Some s) n is = cc

few_kept : (refused : Bool) (number : List ℕ) (n : ℕ)
    → (if refused then None else option_map (λ k. Serve k) (clients_spelled number))
    ≡ Some (Serve n) → AreFew n
few_kept true number n is = absurd cc
few_kept false number n is =
    few_spelled (nat_lt 2 (length number)) (number_spelled number) n
    (mapped (clients_spelled number) n is)

few_with_more : (word : Option Word) (from to next : List ℕ) (rest : List (List ℕ)) (n : ℕ)
    → option_and_then (λ w. asked_with_more w (from ∷ to ∷ next ∷ rest)) word ≡ Some (Serve n)
    → AreFew n
few_with_more (Some Find) from to next rest n is =
    absurd (no_search (searched from to (next ∷ rest)) n is)
few_with_more (Some Seeds) from to next rest n is = absurd (no_report from to (next ∷ rest) n is)
few_with_more (Some Gateway) from to next [] n is =
    few_kept (not (bytes_eq to (codes "--journal")) || is_no_name next) from n is
few_with_more (Some Chart) from to next rest n is =
    absurd (no_chart (chart_by (from ∷ to ∷ next ∷ rest)) n is)
few_with_more _ from to next rest n is = absurd cc

-- a gateway that words ask for has 1 to 16 clients
pub few_clients : (texts : List (List ℕ)) (n : ℕ) → request_by texts ≡ Some (Serve n) → AreFew n
few_clients [] n is = absurd cc
few_clients (word ∷ []) n is = absurd (none_alone (called word) n is)
few_clients (word ∷ argument ∷ []) n is = few_called (called word) argument n is
few_clients (word ∷ argument ∷ file ∷ []) n is =
    absurd (none_with_file (called word) argument file n is)
few_clients (word ∷ from ∷ to ∷ next ∷ rest) n is =
    few_with_more (called word) from to next rest n is
