use Rattle.sgf_tree.proofs.ShortProperties.{short-property}
use Rattle.sgf_tree.proofs.quick.properties.read_short_property.Goals as goal

pub returns : goal.returns
returns c =
    let name = c.in_ok-bracket.ensures in
    short-property c.args.text.now c.args.start c.in_ok-bracket.bracket c.in_ok-close.close c.in_ok-end.end c.requires.within c.requires.capital
    name.letters name.capitals name.bracket c.in_ok-close.ensures c.in_ok-end.ensures.ended
