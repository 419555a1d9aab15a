-- Bytes have one front.
use Rattle.std.proofs.Common.{◌≡◌, ℕ, ◌<◌, ◌≤◌, List, ◌++◌, length, take, drop, inl, inr, refl, sym}
use Rattle.std.proofs.Common.{ap, ◌∙◌, subst, append_assoc, arith, length-append, length-take}
use Rattle.std.proofs.Common.{length-drop, take-append-drop, take-take}
use Rattle.request_stream.specs.declared.front.Front.{Front}
use Rattle.request_stream.specs.declared.front.Front.TheVariants.{Whole, More, Bad}
use Rattle.request_stream.specs.Fronts.{BeginsWith, GoesOn, IsFront}
use Rattle.request_stream.specs.Laws.{NoneGoesOn, HasOneFront}

take_take : (n k : ℕ) (bytes : List ℕ) → n < k → take n (take k bytes) ≡ take n bytes
take_take n k bytes h = take-take n k bytes (omega arith)

pub one_length : (n k : ℕ) → (n < k → ⊥) → (k < n → ⊥) → k ≡ n
one_length n k a b = grind arith

-- two requests that the same bytes begin with have one length
pub not_less : (asks : List ℕ → Type 0) → NoneGoesOn asks → (bytes : List ℕ) (n k : ℕ) → n < k
    → k ≤ length bytes → asks (take n bytes) → asks (take k bytes) → ⊥
not_less asks none bytes n k less within a b =
    let whole : take k bytes ≡ take n (take k bytes) ++ drop n (take k bytes) =
    sym (take-append-drop n (take k bytes))
    in
    let front : take n (take k bytes) ≡ take n bytes = take_take n k bytes less in
    let same : take k bytes ≡ take n bytes ++ drop n (take k bytes) =
    whole ∙ ap (λ l. l ++ drop n (take k bytes)) front
    in
    let empty = none (take n bytes) (drop n (take k bytes)) a (subst asks same b) in
    omega (arith, ap length empty, length-drop n (take k bytes), length-take k bytes)

-- bytes that go on begin with no request
pub no_both : (asks : List ℕ → Type 0) → NoneGoesOn asks → (room : ℕ) (bytes : List ℕ) (n : ℕ)
    → BeginsWith asks room bytes n → GoesOn asks room bytes → ⊥
no_both asks none room bytes n begins on =
    let same : bytes ++ on.behind ≡ take n bytes ++ (drop n bytes ++ on.behind) =
    ap (λ l. l ++ on.behind) (sym (take-append-drop n bytes))
    ∙ append_assoc (take n bytes) (drop n bytes) on.behind
    in
    let empty =
    none (take n bytes) (drop n bytes ++ on.behind) begins.is_request (subst asks same on.is_request)
    in
    omega (arith, ap length empty, length-append (drop n bytes) on.behind, on.some)

whole_front : (asks : List ℕ → Type 0) → NoneGoesOn asks → (room : ℕ) (bytes : List ℕ) (n : ℕ)
    (front : Front) → BeginsWith asks room bytes n → IsFront asks room bytes front → front ≡ Whole n
whole_front asks none room bytes n (Whole k) b f =
    ap Whole (one_length n k (λ h. not_less asks none bytes n k h f.within b.is_request f.is_request)
    (λ h. not_less asks none bytes k n h b.within f.is_request b.is_request))
whole_front asks none room bytes n More b (inl e) =
    absurd (omega (arith, ap length e, b.some, b.within))
whole_front asks none room bytes n More b (inr on) = absurd (no_both asks none room bytes n b on)
whole_front asks none room bytes n Bad b f = absurd (f.no_whole n b)

more_front : (asks : List ℕ → Type 0) → NoneGoesOn asks → (room : ℕ) (bytes : List ℕ)
    (front : Front) → GoesOn asks room bytes → IsFront asks room bytes front → front ≡ More
more_front asks none room bytes (Whole k) on f = absurd (no_both asks none room bytes k f on)
more_front asks none room bytes More on f = refl
more_front asks none room bytes Bad on f = absurd (f.no_more on)

pub one_front : (asks : List ℕ → Type 0) → NoneGoesOn asks → (room : ℕ) (bytes : List ℕ)
    → HasOneFront asks room bytes
one_front asks none room bytes = record {
  whole = λ n front b f. whole_front asks none room bytes n front b f;
  more = λ front on f. more_front asks none room bytes front on f;
}
