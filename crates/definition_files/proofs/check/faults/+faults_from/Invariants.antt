-- What grows less from call to call of `faults::faults_from`: how many faults may still be listed.
use Rattle.definition_files.proofs.check.faults.+faults_from.Given as goal

abbrev pub decreases-faults_from : goal.decreases-faults_from
decreases-faults_from l = l.most
