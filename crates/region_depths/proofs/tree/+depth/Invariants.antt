use Rattle.region_depths.proofs.tree.+depth.Given as goal

abbrev pub decreases-depth : goal.decreases-depth
decreases-depth l = l.name
