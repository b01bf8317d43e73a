-- What a source over a slice gives, and what calls for all of some bytes hand on.
use Rattle.std.proofs.Common.{◌≡◌, ℕ, ◌+◌, ◌-◌, ◌<◌, ◌≤◌, List, ◌++◌, length, take, drop, Option, Some, refl, sym, ap, ◌∙◌, arith, length-append, rules, [], append-nil, min, take-add, take-append-drop, length-take-le, length-drop, drop-drop, take_all}
use Rattle.std.proofs.lemmas.Grind.{common_steps}
use Rattle.std.specs.Io.KnownBytes.{Appends, Keeps, append_known}
use Rattle.std.proofs.KnownBytes.{Appends-trans, append_known-moved}
use Rattle.std.proofs.lemmas.List.{nil_from_length, take-append-le, drop_all}
use Rattle.byte_streams.specs.Streams.{SourceState, Gives, SinkState, Takes}

-- how a source over a slice stands that has given g bytes
abbrev stands : List ℕ → ℕ → SourceState
stands bytes g = record { failures = 0; given = Some (take g bytes); to_come = Some (drop g bytes) }

pub slice_gives : (bytes sl rest : List ℕ) (g n m room : ℕ) → g ≤ length bytes → sl ≡ take m (drop g bytes) → m ≡ n → n ≡ min room (length bytes - g) → 0 < room
    → (n ≤ length (sl ++ rest)) × Gives (stands bytes g) (stands bytes (g + n)) (take n (sl ++ rest))
slice_gives bytes sl rest g n m room le is same count some =
    let left : length (drop g bytes) ≡ length bytes - g = length-drop g bytes in
    let fits : n ≤ length (drop g bytes) = omega (arith, left, count) in
    let sl_is : sl ≡ take n (drop g bytes) = is ∙ ap (λ k. take k (drop g bytes)) same in
    let long : length sl ≡ n = ap length sl_is ∙ length-take-le n (drop g bytes) fits in
    let front : take n (sl ++ rest) ≡ take n (drop g bytes) =
    take-append-le n sl rest (omega (arith, long)) ∙ take_all n sl (omega (arith, long)) ∙ sl_is in (
      omega (arith, length-append sl rest, long),
      record {
        never_failed = refl;
        failures = refl;
        given = take-add g n bytes ∙ ap (λ bs. take g bytes ++ bs) (sym front);
        to_come = sym (take-append-drop n (drop g bytes)) ∙ ap (λ bs. take n (drop g bytes) ++ bs) (drop-drop n g bytes) ∙ ap (λ bs. bs ++ drop (g + n) bytes) (sym front);
        none_at_end = λ none.
            let zero_bytes : n ≡ 0 = sym (length-take-le n (drop g bytes) fits) ∙ ap length (sym front) ∙ ap length none in
            nil_from_length (drop (g + n) bytes) (omega (arith, length-drop (g + n) bytes, count, zero_bytes));
      },
    )

-- bytes go on where those before them ended
pub goes_on : (old now new : Option (List ℕ)) (bytes : List ℕ) (done n : ℕ) → Appends old now (take done bytes)
    → Appends now new (take n (take (length bytes - done) (drop done bytes))) → Appends old new (take (done + n) bytes)
goes_on old now new bytes done n front more = first_of (search rules, grind (arith, common_steps, Appends-trans, length-drop, take-add, take_all))

-- ---- What a sink holds back, after the bytes that its writer was handed.

-- the writer was handed a front of what is held back
pub handed_on : (old new : Option (List ℕ)) (buffer : List ℕ) (before handed : ℕ) → before ≡ 0 → Appends old new (take handed buffer)
    → Keeps (append_known old (drop before buffer)) (append_known new (drop handed buffer))
handed_on old new buffer before handed none grew = first_of (search rules, grind (arith, common_steps, append_known-moved, take-append-drop))

-- nothing is held back
pub none_held : (known : Option (List ℕ)) (held : List ℕ) → held ≡ [] → Keeps known (append_known known held)
none_held known held is = first_of (search rules, grind (arith, common_steps, append-nil))

-- the writer was handed all that was held back, and the buffer was emptied
pub all_handed_on : (old new : Option (List ℕ)) (buffer emptied : List ℕ) (before handed : ℕ) → before ≡ 0 → length buffer ≤ handed → emptied ≡ []
    → Appends old new (take handed buffer) → Keeps (append_known old (drop before buffer)) (append_known new (drop before emptied)) × Keeps new (append_known new (drop before emptied))
all_handed_on old new buffer emptied before handed none all is grew = first_of (search rules, grind (arith, common_steps, drop_all, handed_on, none_held))

-- a sink that holds nothing back delivers what it takes
pub takes_at_once : (old new : SinkState) (bytes : List ℕ) → old.failures ≡ 0 → new.failures ≡ old.failures → Appends old.taken new.taken bytes → old.delivered ≡ old.taken → new.delivered ≡ new.taken
    → Takes old new bytes
takes_at_once old new bytes never same takes before after = first_of (search rules, grind (arith, common_steps))

-- bytes were added to a buffer that was empty
pub held_more : (known now new : Option (List ℕ)) (emptied buffer bytes : List ℕ) (before handed : ℕ) → Keeps known (append_known now (drop before emptied)) → emptied ≡ [] → buffer ≡ emptied ++ bytes → handed ≡ 0 → new ≡ now
    → Appends known (append_known new (drop handed buffer)) (take (length bytes) bytes)
held_more known now new emptied buffer bytes before handed keeps none added zero same = first_of (search rules, grind (arith, common_steps, take_all, append-nil))
