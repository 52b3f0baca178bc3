mod Withdrawals
