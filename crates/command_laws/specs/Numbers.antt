-- The numbers of the questions, and the last question: a command that is obeyed was answered yes to all of them.
use Rattle.std.specs.Prelude.{Bool, true, ◌&&◌, List, [], ◌∷◌, leb}
use Rattle.rules.specs.Questions.{Question}

unfoldable pub numbered : List Question → Bool
numbered [] = true
numbered (q ∷ l) = (leb 1 q.number && leb q.number 10) && numbered l
