-- Filters are read from their spelling alone.
use Rattle.std.proofs.Common.{subst, inl, inr, ◌≡◌, ℕ, zero, suc, ◌+◌, ◌<◌, ◌≤◌, Bool, true, false}
use Rattle.std.proofs.Common.{not, cond, List, [], ◌∷◌, ◌++◌, length, get_or, refl, sym, ap, ◌∙◌}
use Rattle.std.proofs.Common.{Option, Some, None, arith, ◌==◌, codes, decimal, flat_map, bytes_eq}
use Rattle.std.proofs.Common.{append-nil, length-append}
use Rattle.std.specs.List.{join_with_byte}
use Rattle.std.specs.Char.{is_ascii_digit}
use Rattle.std.proofs.lemmas.Bool.{cases_Bool, cond-true, cond-false, and_parts, not-true}
use Rattle.std.proofs.lemmas.List.Splits.{join_with_byte-slice_split}
use Rattle.std.proofs.lemmas.Fmt.{decimal_nonempty}
use Rattle.sigsel.specs.declared.sigsel.Sigsel.{Sigsel}
use Rattle.sigsel.specs.declared.sigsel.Sigsel.TheVariants.{Any, Only, Not}
use Rattle.journal_text.specs.Values.{further_text, numbers_text, filter_text}
use Rattle.text_words.specs.Gives.{◌>>=◌, made}
use Rattle.text_words.specs.Numbers.{half_limit, u32_in}
use Rattle.text_words.specs.Words.{cut_at, parts_at}
use Rattle.journal_words.specs.Filter.{numbers_of, listed_in, filter_by, filter_in}
use Rattle.reading_laws.specs.Forms.{AreNumbers, IsFilter}
use Rattle.reading_laws.proofs.Tools.{bind_some, made_some, if_some_yes, same_text}
use Rattle.reading_laws.proofs.Cuts.{lacks, class_lacks, cut_again, cut_found, split_last}
use Rattle.reading_laws.proofs.Cuts.{split_part}
use Rattle.reading_laws.proofs.NumberLaws.{digits_all}
use Rattle.reading_laws.proofs.PeerLaws.{u32_again, u32_found}

-- ---- numbers

decimal_lacks : (n : ℕ) → n ≤ half_limit → lacks 44 (decimal n) ≡ true
decimal_lacks n fits = class_lacks is_ascii_digit 44 (decimal n) refl (digits_all n (omega arith))

later : (n : ℕ) (rest : List ℕ) → AreNumbers (n ∷ rest) → AreNumbers rest
later n rest are i = are (suc i)

numbers_again : (n : ℕ) (rest : List ℕ) → AreNumbers (n ∷ rest)
    → numbers_of (parts_at 44 (decimal n ++ flat_map further_text rest))
    ≡ Some (n ∷ rest)
numbers_again n [] are =
    let fits = are 0 in
    let one = split_last 44 (decimal n) (decimal_lacks n fits) in
    let whole : decimal n ++ [] ≡ decimal n = append-nil (decimal n) in
    rw (whole, one, u32_again n fits) refl
numbers_again n (m ∷ rest) are =
    let fits = are 0 in
    let first =
    split_part 44 (decimal n) (decimal m ++ flat_map further_text rest) (decimal_lacks n fits) refl
    in
    let others = numbers_again m rest (later n (m ∷ rest) are) in
    ap numbers_of first ∙ rw (u32_again n fits, others) refl

listed_of_bytes : (bytes : List ℕ) → 0 < length bytes
    → listed_in bytes ≡ numbers_of (parts_at 44 bytes)
unfolding listed_in
listed_of_bytes [] some = absurd (omega arith)
listed_of_bytes (b ∷ bytes) some = refl

none_listed : listed_in [] ≡ Some []
unfolding listed_in
none_listed = refl

pub listed_again : (listed : List ℕ) → AreNumbers listed
    → listed_in (numbers_text listed) ≡ Some listed
unfolding numbers_text
listed_again [] are = none_listed
listed_again (n ∷ rest) are =
    let fits = are 0 in
    let some = decimal_nonempty n (omega arith) in
    listed_of_bytes (decimal n ++ flat_map further_text rest)
    (omega (arith, length-append (decimal n) (flat_map further_text rest)))
    ∙ numbers_again n rest are

-- the words of numbers, joined by commas
record AreOfNumbers (words : List (List ℕ)) (listed : List ℕ) : Type 0 where
  joined : join_with_byte 44 words ≡ numbers_text listed
  are : AreNumbers listed

no_numbers : AreNumbers []
no_numbers i = omega arith

one_number : (n : ℕ) (rest : List ℕ) → n ≤ half_limit → AreNumbers rest → AreNumbers (n ∷ rest)
one_number n rest fits are zero = fits
one_number n rest fits are (suc i) = are i

-- the first of several numbers
further : (word next : List ℕ) (words : List (List ℕ)) (n : ℕ) (rest : List ℕ)
    → word ≡ decimal n → join_with_byte 44 (next ∷ words) ≡ numbers_text rest
    → numbers_of (next ∷ words) ≡ Some rest
    → join_with_byte 44 (word ∷ next ∷ words) ≡ decimal n ++ flat_map further_text rest
unfolding numbers_text
further word next words n [] is joined h =
    let first = bind_some (u32_in next) _ [] h in
    let others = bind_some (numbers_of words) _ [] first.2 in
    cc
further word next words n (m ∷ rest) is joined h = rw (is, joined) refl

numbers_found : (words : List (List ℕ)) (listed : List ℕ) → numbers_of words ≡ Some listed
    → AreOfNumbers words listed
unfolding numbers_text
numbers_found [] [] h = record { joined = refl; are = no_numbers }
numbers_found [] (n ∷ listed) h = cc
numbers_found (word ∷ []) listed h =
    let n = bind_some (u32_in word) _ listed h in
    let found = u32_found n.0 word n.1 in
    let same : n.0 ∷ [] ≡ listed = cc in
    subst (λ (xs : List ℕ). AreOfNumbers (word ∷ []) xs) same (record {
      joined = found.0 ∙ sym (append-nil (decimal n.0));
      are = one_number n.0 [] found.1 no_numbers;
    })
numbers_found (word ∷ next ∷ words) listed h =
    let n = bind_some (u32_in word) _ listed h in
    let found = u32_found n.0 word n.1 in
    let others = bind_some (numbers_of (next ∷ words)) _ listed n.2 in
    let rest = numbers_found (next ∷ words) others.0 others.1 in
    let same : n.0 ∷ others.0 ≡ listed = cc in
    subst (λ (xs : List ℕ). AreOfNumbers (word ∷ next ∷ words) xs) same (record {
      joined = further word next words n.0 others.0 found.0 rest.joined others.1;
      are = one_number n.0 others.0 found.1 rest.are;
    })

pub record IsOfListed (word listed : List ℕ) : Type 0 where
  pub spelled : word ≡ numbers_text listed
  pub are : AreNumbers listed

pub listed_found : (word listed : List ℕ) → listed_in word ≡ Some listed → IsOfListed word listed
unfolding listed_in numbers_text
listed_found [] [] h = record { spelled = refl; are = no_numbers }
listed_found [] (n ∷ listed) h = cc
listed_found (b ∷ word) listed h =
    let found = numbers_found (parts_at 44 (b ∷ word)) listed h in
    record {
      spelled = sym (join_with_byte-slice_split 44 (b ∷ word)) ∙ found.joined;
      are = found.are;
    }

-- ---- filters

kind_cut : (kind rest : List ℕ) → lacks 58 kind ≡ true
    → bytes_eq (kind ++ 58 ∷ rest) (codes "any") ≡ false
    → filter_in (kind ++ 58 ∷ rest) ≡ filter_by (kind, rest)
unfolding filter_in
kind_cut kind rest none other =
    cond-false _ _ _ other
    ∙ ap (λ (o : Option (List ℕ × List ℕ)). o >>= filter_by) (cut_again 58 kind rest none)

any_again : filter_in (codes "any") ≡ Some Any
unfolding filter_in
any_again = refl

pub filter_again : (filter : Sigsel) → IsFilter filter → filter_in (filter_text filter) ≡ Some filter
unfolding filter_text
filter_again Any is = any_again
filter_again (Only listed) is =
    kind_cut (codes "only") (numbers_text listed) refl refl ∙ ap (made Only) (listed_again listed is)
filter_again (Not listed) is =
    kind_cut (codes "not") (numbers_text listed) refl refl ∙ ap (made Not) (listed_again listed is)

pub record IsOfFilter (word : List ℕ) (filter : Sigsel) : Type 0 where
  pub spelled : word ≡ filter_text filter
  pub is : IsFilter filter

any_found : IsOfFilter (codes "any") Any
unfolding filter_text
any_found = record { spelled = refl; is = tt }

only_found : (word rest : List ℕ) (filter : Sigsel) → word ≡ codes "only" ++ 58 ∷ rest
    → made Only (listed_in rest) ≡ Some filter → IsOfFilter word filter
unfolding filter_text
only_found word rest filter cut h =
    let listed = made_some Only (listed_in rest) filter h in
    let found = listed_found rest listed.0 listed.1 in
    subst (λ (f : Sigsel). IsOfFilter word f) (sym listed.2) (record {
      spelled = cc;
      is = found.are;
    })

not_found : (word rest : List ℕ) (filter : Sigsel) → word ≡ codes "not" ++ 58 ∷ rest
    → made Not (listed_in rest) ≡ Some filter → IsOfFilter word filter
unfolding filter_text
not_found word rest filter cut h =
    let listed = made_some Not (listed_in rest) filter h in
    let found = listed_found rest listed.0 listed.1 in
    subst (λ (f : Sigsel). IsOfFilter word f) (sym listed.2) (record {
      spelled = cc;
      is = found.are;
    })

parts_found : (word : List ℕ) (filter : Sigsel) (parts : List ℕ × List ℕ)
    → word ≡ parts.0 ++ 58 ∷ parts.1 → filter_by parts ≡ Some filter → IsOfFilter word filter
parts_found word filter parts cut h =
    elim (cases_Bool (bytes_eq parts.0 (codes "only"))) [
      | inl holds ↦
          only_found word parts.1 filter
          (cut ∙ ap (λ (k : List ℕ). k ++ 58 ∷ parts.1) (same_text _ _ holds))
          (sym (cond-true _ _ _ holds) ∙ h)
      | inr fails ↦
          let rest = made Not (listed_in parts.1) in
          let chosen = if_some_yes (bytes_eq parts.0 (codes "not")) rest filter (sym (cond-false _ _ _ fails) ∙ h) in
          not_found word parts.1 filter
          (cut ∙ ap (λ (k : List ℕ). k ++ 58 ∷ parts.1) (same_text _ _ chosen.0)) chosen.1
    ]

pub filter_found : (word : List ℕ) (filter : Sigsel) → filter_in word ≡ Some filter
    → IsOfFilter word filter
unfolding filter_in
filter_found word filter h =
    elim (cases_Bool (bytes_eq word (codes "any"))) [
      | inl holds ↦
          let e = sym (cond-true _ (Some Any) (cut_at 58 word >>= filter_by) holds) ∙ h in
          let same : Any ≡ filter = cc in
          subst (λ (f : Sigsel). IsOfFilter word f) same
          (subst (λ (w : List ℕ). IsOfFilter w Any) (sym (same_text _ _ holds)) any_found)
      | inr fails ↦
          let parts =
          bind_some (cut_at 58 word) filter_by filter (sym (cond-false _ (Some Any) _ fails) ∙ h)
          in
          parts_found word filter parts.0 (cut_found 58 word parts.0 parts.1) parts.2
    ]
