use Rattle.go_board.proofs.Common.{subst, sym, List, Contains, play, Grid, WasEmptied}
use Rattle.board_past.proofs.RepeatLemmas.{emptied-if_back}
use Rattle.go_board.proofs.laws.repeating.Goals as goal

pub returns : goal.returns
returns c = λ s others k p seen none stone has.
    subst (λ (gs : List Grid). WasEmptied p gs) (sym seen)
    (emptied-if_back p (play s.colouring k p) s.colouring others none stone (subst (λ (gs : List Grid). Contains gs (play s.colouring k p)) seen has))
