mod Smallest
