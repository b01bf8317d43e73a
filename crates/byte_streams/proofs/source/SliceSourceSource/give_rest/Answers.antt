-- The rest is what comes after the bytes given before.
use Rattle.std.proofs.Common.{◌≡◌, ◌+◌, ◌-◌, ◌++◌, length, take, drop, refl, sym, ap, ◌∙◌, arith, take-add, take-append-drop, drop-drop}
use Rattle.std.proofs.lemmas.List.{drop_all}
use Rattle.byte_streams.proofs.source.SliceSourceSource.give_rest.Goals as goal

pub returns : goal.returns
returns c =
    let s = c.args.self.now in
    let bytes = s.bytes.now in
    let n = length bytes - s.given in
    let all : length bytes ≡ s.given + n = omega (arith, s.within) in
    let to_come = drop s.given bytes in (
      (
        refl,
        λ _. tt,
        (
          (
            c.if-rest-most.false,
            record {
              never_failed = refl;
              failures = refl;
              given = ap (λ k. take k bytes) all ∙ take-add s.given n bytes;
              to_come = sym (take-append-drop n to_come) ∙ ap (λ bs. take n to_come ++ bs) (drop-drop n s.given bytes ∙ ap (λ k. drop k bytes) (sym all));
              at_end = drop_all (length bytes) bytes (omega arith);
            },
          ),
          omega arith,
        ),
      ),
      record { rest = tt },
    )
