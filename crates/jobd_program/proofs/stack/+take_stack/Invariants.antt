-- How many pages are still to be taken below this one.
use Rattle.jobd_program.proofs.stack.+take_stack.Given as goal

abbrev pub decreases-take_stack : goal.decreases-take_stack
decreases-take_stack l = l.pages
