use Rattle.sgf_properties.proofs.Common.{◌∷◌, ◌∙◌, ap, sym, get_or, filter, if◌then◌else◌, Property, is_upper}
use Rattle.sgf_properties.proofs.property.PropRef.initial.Goals as goal

pub returns : goal.returns
returns c =
    let (letter, rest, is, capital) = c.self.invariant.1 in (
      filter is_upper rest,
      ap (λ (p : Property). p.name) (sym c.self.view_is) ∙ ap (filter is_upper) is ∙ ap (λ b. if b then letter ∷ filter is_upper rest else filter is_upper rest) capital
          ∙ ap (λ l. l ∷ filter is_upper rest) (ap (λ s. get_or s 0 0) (sym is)),
    )
