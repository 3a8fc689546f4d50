mod Neighbour
