use Rattle.sf_piece_tree.proofs.balance.+hang_left.Given as goal

abbrev pub decreases-hang_left : goal.decreases-hang_left
decreases-hang_left g l = l.right.height
